-- No reply of the first program is a line that a follower accepts.
use Rattle.std.proofs.Common.{◌≡◌, ◌≢◌, ℕ, ◌<◌, ◌≤◌, ◌^◌, Bool, true, false, List, ◌∷◌, refl, subst, arith}
use lib.Chars.{codes}
use Rattle.std.proofs.lemmas.List.Elements.{All-head}
use Rattle.std.proofs.lemmas.Slice.Eq.{bytes_eq-Decides}
use Rattle.std.specs.Char.{digit_value}
use Rattle.std.specs.Fmt.{decimal}
use Rattle.std.specs.Str.{bytes_eq}
use Rattle.indexset_bench.specs.Reply.{reply_text}
use Rattle.indexset_bench.specs.declared.reply.Reply.{Reply}
use Rattle.indexset_bench.specs.declared.reply.Reply.TheVariants.{New, Old, OldValue, Gone, GoneValue, Yes, No, Count, Item, Nothing, Empty, Bad}
use Rattle.indexset_follow.specs.Passed.{IsPassedOver, ReplyFits}
use Rattle.indexset_wire.specs.Numbers.Laws.{number_lacks}
use Rattle.indexset_wire.specs.Parts.Laws.{Lacks, lacks_tested}
use Rattle.indexset_follow.proofs.Passing.{gone_passed, old_passed, says_nothing, uncut, word_passed}
use Rattle.std.specs.Ordering.{nat_cmp}
use Rattle.indexset_wire.specs.Texts.{number_texts}

-- a number is not a word that begins with a byte other than a digit
no_word : (n : ℕ) → n < 2 ^ 64 → (c : ℕ) (word : List ℕ) → 10 ≤ digit_value c → bytes_eq (decimal n) (c ∷ word) ≡ false
no_word n small c word big = at (bytes_eq (decimal n) (c ∷ word)) refl
  where
    at : (b : Bool) → bytes_eq (decimal n) (c ∷ word) ≡ b → b ≡ false
    at true e = absurd (All-head (λ x. x ≢ c) c word (subst (Lacks c) ((bytes_eq-Decides (decimal n) (c ∷ word)).0 e) (number_lacks c big n small)) refl)
    at false e = refl

number_passed : (n : ℕ) → n < 2 ^ 64 → IsPassedOver nat_cmp number_texts (decimal n)
number_passed n small =
    let one = uncut 32 (decimal n) (number_lacks 32 (omega arith) n small) in
    let nodes : bytes_eq (decimal n) (codes "nodes") ≡ false = no_word n small 110 (codes "odes") (omega arith) in
    let snapshot : bytes_eq (decimal n) (codes "snapshot") ≡ false = no_word n small 115 (codes "napshot") (omega arith) in
    let sum : bytes_eq (decimal n) (codes "sum") ≡ false = no_word n small 115 (codes "um") (omega arith) in
    let compact : bytes_eq (decimal n) (codes "compact") ≡ false = no_word n small 99 (codes "ompact") (omega arith) in
    let len : bytes_eq (decimal n) (codes "len") ≡ false = no_word n small 108 (codes "en") (omega arith) in
    let first : bytes_eq (decimal n) (codes "first") ≡ false = no_word n small 102 (codes "irst") (omega arith) in
    let last : bytes_eq (decimal n) (codes "last") ≡ false = no_word n small 108 (codes "ast") (omega arith) in
    let next : bytes_eq (decimal n) (codes "next") ≡ false = no_word n small 110 (codes "ext") (omega arith) in
    says_nothing nat_cmp number_texts (decimal n) (rw one refl) (rw one refl) (rw one refl) (rw (one, len, first, last, nodes, next, snapshot, sum, compact) refl)

pub reply_passed : (r : Reply ℕ) → ReplyFits number_texts r → IsPassedOver nat_cmp number_texts (reply_text number_texts r)
reply_passed New fit = word_passed nat_cmp number_texts (codes "new") (lacks_tested 32 (codes "new") refl) refl
reply_passed Old fit = word_passed nat_cmp number_texts (codes "old") (lacks_tested 32 (codes "old") refl) refl
reply_passed (OldValue v) fit = old_passed nat_cmp number_texts v
reply_passed Gone fit = word_passed nat_cmp number_texts (codes "gone") (lacks_tested 32 (codes "gone") refl) refl
reply_passed (GoneValue v) fit = gone_passed nat_cmp number_texts v
reply_passed Yes fit = word_passed nat_cmp number_texts (codes "yes") (lacks_tested 32 (codes "yes") refl) refl
reply_passed No fit = word_passed nat_cmp number_texts (codes "no") (lacks_tested 32 (codes "no") refl) refl
reply_passed (Count n) fit = number_passed n fit
reply_passed (Item n) fit = number_passed n fit
reply_passed Nothing fit = word_passed nat_cmp number_texts (codes "none") (lacks_tested 32 (codes "none") refl) refl
reply_passed Empty fit = word_passed nat_cmp number_texts (codes "empty") (lacks_tested 32 (codes "empty") refl) refl
reply_passed Bad fit = word_passed nat_cmp number_texts (codes "bad") (lacks_tested 32 (codes "bad") refl) refl
