-- The spelling of a text is a word, and only that text has it.
use Rattle.std.proofs.Common.{None, Some, ◌≡◌, ◌≢◌, ℕ, zero, suc, ◌<◌, ◌≤◌, Bool}
use Rattle.std.proofs.Common.{true, false, cond, ◌&&◌, not, eqb, List, [], ◌∷◌, ◌++◌}
use Rattle.std.proofs.Common.{refl, sym, ap, subst, ◌∙◌, arith, true≢false, ne_eqb}
use Rattle.std.specs.Prelude.{nat_lt}
use Rattle.std.proofs.lemmas.Bool.{eqb-false, eqb-true, lt-ltb, ltb-true}
use borrow.Author.Tests.{ltb-false}
use Rattle.std.proofs.lemmas.List.Elements.{All-cons, All-head, All-nil, All-tail}
use Rattle.std.proofs.lemmas.Slice.Eq.{bytes_eq-Decides}
use Rattle.std.specs.List.{list_all}
use Rattle.std.specs.Str.{bytes_eq}
use Rattle.indexset_wire.specs.Texts.{AreItems, AreTokens}
use Rattle.indexset_wire.specs.Parts.{is_item, is_token, lacks}
use Rattle.indexset_wire.specs.Parts.Laws.{Lacks, both, none_some, some_inj, token_item}
use Rattle.indexset_text.specs.Names.{AreBytes, byte_text, is_plain, name_of, name_text, name_texts}
use Rattle.percent_encoding.proofs.PercentLemmas.{All-percent_encode, IsEscapeByte}
use Rattle.percent_encoding.proofs.PercentLemmas.{percent_encode_escaped, percent_encode_kept}
use Rattle.percent_encoding.proofs.PercentLemmas.{percent_encode-nil, round_trip}
use Rattle.percent_encoding.specs.AsciiSet.{contains, should_percent_encode}
use Rattle.percent_encoding.specs.Percent.{percent_decode, percent_encode, percent_encode_byte}
use Rattle.percent_encoding.specs.declared.ascii_set.AsciiSet.{AsciiSet}
use Rattle.percent_encoding.specs.declared.ascii_set.TheConstants.{NON_ALPHANUMERIC}

-- ---- tests of all bytes

-- the test holds for each number less than n
abbrev pub table : (ℕ → Bool) → ℕ → Bool
table test zero = true
table test (suc n) = test n && table test n

pub in_table : (test : ℕ → Bool) (n b : ℕ) → table test n ≡ true → b < n → test b ≡ true
in_table test zero b e less = absurd (omega (arith, less))
in_table test (suc n) b e less =
    let tests = both (test n) (table test n) e in
    at (eqb b n) refl tests.0 (in_table test n b tests.1)
  where
    at : (same : Bool) → eqb b n ≡ same → test n ≡ true → (b < n → test b ≡ true) → test b ≡ true
    at true is last before = ap test (eqb-true b n is) ∙ last
    at false other last before = let apart = eqb-false b n other in
        before (omega (arith, less, apart))

abbrev pub same_bool : Bool → Bool → Bool
same_bool true b = b
same_bool false b = not b

pub same_is : (a b : Bool) → same_bool a b ≡ true → a ≡ b
same_is true true e = refl
same_is true false e = cc
same_is false true e = cc
same_is false false e = refl

-- ---- sets that escape the bytes that are not plain

pub record EscapesOthers (set : AsciiSet) : Type 0 where
  pub test : (b : ℕ) → should_percent_encode set b ≡ not (is_plain b)

no_less : (b k : ℕ) → k ≤ b → nat_lt b k ≡ false
no_less b k more = at (nat_lt b k) refl
  where
    at : (t : Bool) → nat_lt b k ≡ t → t ≡ false
    at true is = let less = ltb-true b k is in absurd (omega (arith, less, more))
    at false is = refl

-- a byte that is not ASCII is not plain
high_apart : (b : ℕ) → 128 ≤ b → is_plain b ≡ false
unfolding is_plain
high_apart b high =
    let dash = ne_eqb b 45 (λ e. omega (arith, e, high)) in
    let dot = ne_eqb b 46 (λ e. omega (arith, e, high)) in
    let line = ne_eqb b 95 (λ e. omega (arith, e, high)) in
    let wave = ne_eqb b 126 (λ e. omega (arith, e, high)) in
    rw (
      no_less b 48 (omega (arith, high)),
      no_less b 58 (omega (arith, high)),
      no_less b 65 (omega (arith, high)),
      no_less b 91 (omega (arith, high)),
      no_less b 97 (omega (arith, high)),
      no_less b 123 (omega (arith, high)),
      dash,
      dot,
      line,
      wave,
    )
    refl

-- a set of ASCII bytes is determined by the bytes less than 128
by_ascii : (set : AsciiSet) → ((b : ℕ) → b < 128 → contains set b ≡ not (is_plain b))
    → EscapesOthers set
unfolding should_percent_encode
by_ascii set inside = record { test = λ b. at b (nat_lt b 128) refl }
  where
    at : (b : ℕ) (ascii : Bool) → nat_lt b 128 ≡ ascii
        → should_percent_encode set b ≡ not (is_plain b)
    at b true is = rw is (inside b (ltb-true b 128 is))
    at b false is = let high = ltb-false b 128 is in
        rw (is, high_apart b (omega (arith, high))) refl

pub others_escaped : (set : AsciiSet) → EscapesOthers set → (name : List ℕ)
    → percent_encode set name ≡ name_text name
unfolding name_text byte_text
others_escaped set escapes [] = percent_encode-nil set
others_escaped set escapes (b ∷ name) = at (is_plain b) refl (others_escaped set escapes name)
  where
    tested : should_percent_encode set b ≡ not (is_plain b)
    tested = escapes.test b

    at : (plain : Bool) → is_plain b ≡ plain → percent_encode set name ≡ name_text name
        → percent_encode set (b ∷ name)
        ≡ cond plain (b ∷ []) (percent_encode_byte b) ++ name_text name
    at true is rest = percent_encode_kept set b name (tested ∙ ap not is) ∙ ap (λ t. b ∷ t) rest
    at false is rest =
        percent_encode_escaped set b name (tested ∙ ap not is)
        ∙ ap (λ t. percent_encode_byte b ++ t) rest

-- the set of bytes that are escaped
plain_set : AsciiSet
plain_set = record { mask = 244577951340790884343731678625228914687 }

plain_escapes : EscapesOthers plain_set
unfolding plain_set is_plain
plain_escapes =
    by_ascii plain_set (λ b less.
    same_is (contains plain_set b) (not (is_plain b))
    (in_table (λ b. same_bool (contains plain_set b) (not (is_plain b))) 128 b refl less))

-- a byte is removed from a set
pub record IsWithout (c : ℕ) (before after : AsciiSet) : Type 0 where
  pub removed : contains after c ≡ false
  pub others : (b : ℕ) → b < 128 → b ≢ c → contains after b ≡ contains before b

left_in : (c : ℕ) (before after : AsciiSet) → IsWithout c before after → (x : ℕ) → x < 128
    → contains after x ≡ (not (eqb x c) && contains before x)
left_in c before after without x less = at (eqb x c) refl
  where
    at : (same : Bool) → eqb x c ≡ same → contains after x ≡ (not same && contains before x)
    at true is = ap (contains after) (eqb-true x c is) ∙ without.removed
    at false other = without.others x less (eqb-false x c other)

-- a byte that is neither a letter nor a digit nor one of -._~
abbrev kept : ℕ → Bool
kept x =
    not (eqb x 126)
    && (not (eqb x 95) && (not (eqb x 46) && (not (eqb x 45) && contains NON_ALPHANUMERIC x)))

pub four_removed : (dash dot line wave : AsciiSet) → IsWithout 45 NON_ALPHANUMERIC dash
    → IsWithout 46 dash dot → IsWithout 95 dot line → IsWithout 126 line wave → EscapesOthers wave
unfolding is_plain
four_removed dash dot line wave a b c d = by_ascii wave at
  where
    at : (x : ℕ) → x < 128 → contains wave x ≡ not (is_plain x)
    at x small =
        let inside : contains wave x ≡ kept x =
        left_in 126 line wave d x small
        ∙ (λ i. not (eqb x 126)
        && (left_in 95 dot line c x small
        ∙ (λ j. not (eqb x 95)
        && (left_in 46 dash dot b x small
        ∙ (λ k. not (eqb x 46) && left_in 45 NON_ALPHANUMERIC dash a x small k))
        j))
        i) in
        inside
        ∙ same_is (kept x) (not (is_plain x))
        (in_table (λ x. same_bool (kept x) (not (is_plain x))) 128 x refl small)

-- ---- reading the spelling of a text

bytes_tested : (name : List ℕ) → AreBytes name → list_all (λ b. nat_lt b 256) name ≡ true
bytes_tested [] fit = refl
bytes_tested (b ∷ name) fit =
    rw (
      lt-ltb b 256 (All-head (λ b. b < 256) b name fit),
      bytes_tested name (All-tail (λ b. b < 256) b name fit),
    )
    refl

pub name_told : (name : List ℕ) → AreBytes name → name_of (name_text name) ≡ Some name
unfolding name_of plain_set
name_told name fit =
    let back : percent_decode (name_text name) ≡ name =
    ap percent_decode (sym (others_escaped plain_set plain_escapes name))
    ∙ round_trip plain_set name refl fit in
    rw (
      back,
      (bytes_eq-Decides (name_text name) (name_text name)).1 refl,
      bytes_tested name fit,
    )
    refl

-- ---- the spelling of a text that was read

tested_bytes : (name : List ℕ) → list_all (λ b. nat_lt b 256) name ≡ true → AreBytes name
tested_bytes [] e = All-nil (λ b. b < 256)
tested_bytes (b ∷ name) e =
    let tests = both (nat_lt b 256) (list_all (λ b. nat_lt b 256) name) e in
    All-cons (λ b. b < 256) b name (ltb-true b 256 tests.0) (tested_bytes name tests.1)

pub name_sound : (text name : List ℕ) → name_of text ≡ Some name
    → (text ≡ name_text name) × AreBytes name
unfolding name_of
name_sound text name h =
    at (percent_decode text)
    (bytes_eq text (name_text (percent_decode text))
    && list_all (λ b. nat_lt b 256) (percent_decode text))
    refl h
  where
    at : (read : List ℕ) (b : Bool)
        → (bytes_eq text (name_text read) && list_all (λ b. nat_lt b 256) read) ≡ b
        → cond b (Some read) None ≡ Some name → (text ≡ name_text name) × AreBytes name
    at read true is e =
        let tests = both (bytes_eq text (name_text read)) (list_all (λ b. nat_lt b 256) read) is in
        subst (λ n. (text ≡ name_text n) × AreBytes n) (some_inj read name e)
        ((bytes_eq-Decides text (name_text read)).0 tests.0, tested_bytes read tests.1)
    at read false is e = none_some name e

-- ---- a spelling is a word

lacks_made : (c : ℕ) (text : List ℕ) → Lacks c text → lacks c text ≡ true
lacks_made c [] none = refl
lacks_made c (x ∷ text) none =
    rw (
      ne_eqb x c (All-head (λ x. x ≢ c) x text none),
      lacks_made c text (All-tail (λ x. x ≢ c) x text none),
    )
    refl

spelled_lacks : (c : ℕ) → should_percent_encode plain_set c ≡ true
    → ((b : ℕ) → IsEscapeByte b → b ≢ c) → (name : List ℕ) → lacks c (name_text name) ≡ true
spelled_lacks c escaped other name =
    lacks_made c (name_text name)
    (subst (Lacks c) (others_escaped plain_set plain_escapes name)
    (All-percent_encode (λ b. b ≢ c) plain_set name kept other))
  where
    kept : (b : ℕ) → should_percent_encode plain_set b ≡ false → b ≢ c
    kept b stays is =
        true≢false (sym escaped ∙ ap (should_percent_encode plain_set) (sym is) ∙ stays)

no_end : (b : ℕ) → IsEscapeByte b → b ≢ 10
no_end b h e = grind arith

no_space : (b : ℕ) → IsEscapeByte b → b ≢ 32
no_space b h e = grind arith

no_colon : (b : ℕ) → IsEscapeByte b → b ≢ 58
no_colon b h e = grind arith

pub name_whole : (name : List ℕ) → AreBytes name → is_token (name_text name) ≡ true
unfolding is_token plain_set should_percent_encode
name_whole name fit =
    rw (
      spelled_lacks 10 refl no_end name,
      spelled_lacks 32 refl no_space name,
      spelled_lacks 58 refl no_colon name,
    )
    refl

name_item : (name : List ℕ) → AreBytes name → is_item (name_text name) ≡ true
name_item name fit = token_item (name_text name) (name_whole name fit)

pub name_items : AreItems name_texts
name_items = record { reads_back = name_told; only = name_sound; one_item = name_item }

pub name_tokens : AreTokens name_texts
name_tokens = record { items = name_items; one_token = name_whole }

-- ---- a text as its bytes

pub read_some : (text name spelled : List ℕ) → name ≡ percent_decode text
    → spelled ≡ name_text name → AreBytes name → text ≡ spelled → Some name ≡ name_of text
unfolding name_of
read_some text name spelled decoded encoded fit same =
    let is = (bytes_eq-Decides text (name_text name)).1 (same ∙ encoded) in
    rw (← decoded, is, bytes_tested name fit) refl

pub read_none : (text name spelled : List ℕ) → name ≡ percent_decode text
    → spelled ≡ name_text name → (text ≡ spelled → ⊥) → None ≡ name_of text
unfolding name_of
read_none text name spelled decoded encoded other =
    rw (← decoded) (at (bytes_eq text (name_text name)) refl)
  where
    at : (b : Bool) → bytes_eq text (name_text name) ≡ b
        → None ≡ cond (b && list_all (λ b. nat_lt b 256) name) (Some name) None
    at true is = absurd (other ((bytes_eq-Decides text (name_text name)).0 is ∙ sym encoded))
    at false is = refl
