-- A line is a read if and only if it is the text of that read.
use Rattle.std.proofs.Common.{Option, None, Some, ◌≡◌, ℕ, ◌<◌, ◌^◌, Bool, true, false, cond, List, ◌∷◌, ◌++◌, refl, ap, sym, subst, ◌∙◌, arith}
use lib.Chars.{codes}
use Rattle.std.proofs.lemmas.Slice.Eq.{bytes_eq-Decides}
use Rattle.std.specs.Fmt.{decimal}
use Rattle.std.specs.Option.{option_and_then, option_map, option_map_or}
use Rattle.std.specs.Str.{bytes_eq}
use Rattle.indexset_wire.specs.Numbers.{number_of}
use Rattle.indexset_wire.specs.Parts.{cut_at}
use Rattle.indexset_bench.specs.Texts.{two_keys}
use Rattle.indexset_wire.specs.Texts.{AreTokens, Texts}
use Rattle.indexset_bench.proofs.CallerLemmas.{two_keys_sound, two_keys_told}
use Rattle.indexset_follow.specs.Numbers.{two_numbers}
use Rattle.indexset_follow.specs.Query.{QueryFits, keyed_query, numbered_query, query_line, query_of, word_query}
use Rattle.indexset_follow.specs.declared.reads.query.Query.{Query}
use Rattle.indexset_follow.specs.declared.reads.query.Query.TheVariants.{Get, Len, First, Last, Range, Rank, At, Page, Nodes, Next, Head, Snapshot, Sum, Compact}
use Rattle.indexset_wire.specs.Numbers.Laws.{number_lacks, number_sound, number_told}
use Rattle.indexset_wire.specs.Parts.Laws.{cut_sound, cut_told, lacks_tested, map_some, none_some, some_inj, then_some}

-- ---- two numbers

pub two_told : (a b : ℕ) → a < 2 ^ 64 → b < 2 ^ 64 → two_numbers (decimal a ++ 32 ∷ decimal b) ≡ Some (a, b)
two_told a b first second =
    let cut : cut_at 32 (decimal a ++ 32 ∷ decimal b) ≡ Some (decimal a, decimal b) = cut_told 32 (decimal a) (decimal b) (number_lacks 32 (omega arith) a first) in
    rw (cut, number_told a first, number_told b second) refl

pub two_sound : (text : List ℕ) (p : ℕ × ℕ) → two_numbers text ≡ Some p → (text ≡ decimal p.0 ++ 32 ∷ decimal p.1) × (p.0 < 2 ^ 64) × (p.1 < 2 ^ 64)
two_sound text p h =
    let cut = then_some (cut_at 32 text) (λ cut. option_and_then (λ a. option_map (λ b. (a, b)) (number_of cut.1)) (number_of cut.0)) p h in
    let first = then_some (number_of cut.0.0) (λ a. option_map (λ b. (a, b)) (number_of cut.0.1)) p cut.2 in
    let second = map_some (number_of cut.0.1) (λ b. (first.0, b)) p first.2 in
    let a = number_sound cut.0.0 first.0 first.1 in
    let b = number_sound cut.0.1 second.0 second.1 in
    let parts = cut_sound 32 text cut.0.0 cut.0.1 cut.1 ∙ (λ i. a.0 i ++ 32 ∷ b.0 i) in
    subst (λ p. (text ≡ decimal p.0 ++ 32 ∷ decimal p.1) × (p.0 < 2 ^ 64) × (p.1 < 2 ^ 64)) second.2 (parts, a.1, b.1)

pub same : (word text : List ℕ) → bytes_eq word text ≡ true → word ≡ text
same word text e = (bytes_eq-Decides word text).0 e

-- ---- reading the text of a read

module _ {T : Type 0} (texts : Texts T) where
  -- the word of a read and the text after it, if it has one
  abbrev pub parts_of : Query T → Option (List ℕ × List ℕ)
  parts_of (Get k) = Some (codes "get", texts.text k)
  parts_of Len = None
  parts_of First = None
  parts_of Last = None
  parts_of (Range a b) = Some (codes "range", texts.text a ++ 32 ∷ texts.text b)
  parts_of (Rank k) = Some (codes "rank", texts.text k)
  parts_of (At i) = Some (codes "at", decimal i)
  parts_of (Page i n) = Some (codes "page", decimal i ++ 32 ∷ decimal n)
  parts_of Nodes = None
  parts_of Next = None
  parts_of (Head m) = Some (codes "head", decimal m)
  parts_of Snapshot = None
  parts_of Sum = None
  parts_of Compact = None

  pub query_cut : (q : Query T) → cut_at 32 (query_line texts q) ≡ parts_of q
  query_cut (Get k) = cut_told 32 (codes "get") (texts.text k) (lacks_tested 32 (codes "get") refl)
  query_cut Len = refl
  query_cut First = refl
  query_cut Last = refl
  query_cut (Range a b) = cut_told 32 (codes "range") (texts.text a ++ 32 ∷ texts.text b) (lacks_tested 32 (codes "range") refl)
  query_cut (Rank k) = cut_told 32 (codes "rank") (texts.text k) (lacks_tested 32 (codes "rank") refl)
  query_cut (At i) = cut_told 32 (codes "at") (decimal i) (lacks_tested 32 (codes "at") refl)
  query_cut (Page i n) = cut_told 32 (codes "page") (decimal i ++ 32 ∷ decimal n) (lacks_tested 32 (codes "page") refl)
  query_cut Nodes = refl
  query_cut Next = refl
  query_cut (Head m) = cut_told 32 (codes "head") (decimal m) (lacks_tested 32 (codes "head") refl)
  query_cut Snapshot = refl
  query_cut Sum = refl
  query_cut Compact = refl

  -- the text is that of the read
  abbrev Spells : List ℕ → Query T → Type 0
  Spells text q = (text ≡ query_line texts q) × QueryFits texts q

  module _ (words : AreTokens texts) where
    pub query_told : (q : Query T) → QueryFits texts q → query_of texts (query_line texts q) ≡ Some q
    query_told (Get k) fit = rw (query_cut (Get k)) (ap (option_map Get) (words.items.reads_back k fit))
    query_told Len fit = refl
    query_told First fit = refl
    query_told Last fit = refl
    query_told (Range a b) fit = rw (query_cut (Range a b)) (ap (option_map (λ p. Range p.0 p.1)) (two_keys_told texts words a b fit.0 fit.1))
    query_told (Rank k) fit = rw (query_cut (Rank k)) (ap (option_map Rank) (words.items.reads_back k fit))
    query_told (At i) fit = rw (query_cut (At i)) (ap (option_map At) (number_told i fit))
    query_told (Page i n) fit = rw (query_cut (Page i n)) (ap (option_map (λ p. Page p.0 p.1)) (two_told i n fit.0 fit.1))
    query_told Nodes fit = refl
    query_told Next fit = refl
    query_told (Head m) fit = rw (query_cut (Head m)) (ap (option_map Head) (number_told m fit))
    query_told Snapshot fit = refl
    query_told Sum fit = refl
    query_told Compact fit = refl

    -- ---- the text of a read that was read

    word_sound : (word : List ℕ) (q : Query T) → word_query {T = T} word ≡ Some q → Spells word q
    word_sound word q h =
        at (bytes_eq word (codes "len")) (bytes_eq word (codes "first")) (bytes_eq word (codes "last"))
        (bytes_eq word (codes "nodes")) (bytes_eq word (codes "next")) (bytes_eq word (codes "snapshot"))
        (bytes_eq word (codes "sum")) (bytes_eq word (codes "compact")) refl refl refl refl refl refl refl refl h
      where
        -- the word is that of this read
        is_token : (s : Query T) → QueryFits texts s → word ≡ query_line texts s → Some s ≡ Some q → Spells word q
        is_token s fit text e = subst (Spells word) (some_inj s q e) (text, fit)

        at : (a b c d e f g i : Bool) → bytes_eq word (codes "len") ≡ a → bytes_eq word (codes "first") ≡ b
            → bytes_eq word (codes "last") ≡ c → bytes_eq word (codes "nodes") ≡ d → bytes_eq word (codes "next") ≡ e
            → bytes_eq word (codes "snapshot") ≡ f → bytes_eq word (codes "sum") ≡ g
            → bytes_eq word (codes "compact") ≡ i
            → cond a (Some Len)
            (cond b (Some First)
            (cond c (Some Last)
            (cond d (Some Nodes)
            (cond e (Some Next) (cond f (Some Snapshot) (cond g (Some Sum) (cond i (Some Compact) None)))))))
            ≡ Some q
            → Spells word q
        at true b c d e f g i is _ _ _ _ _ _ _ h = is_token Len tt (same word (codes "len") is) h
        at false true c d e f g i _ is _ _ _ _ _ _ h = is_token First tt (same word (codes "first") is) h
        at false false true d e f g i _ _ is _ _ _ _ _ h = is_token Last tt (same word (codes "last") is) h
        at false false false true e f g i _ _ _ is _ _ _ _ h = is_token Nodes tt (same word (codes "nodes") is) h
        at false false false false true f g i _ _ _ _ is _ _ _ h = is_token Next tt (same word (codes "next") is) h
        at false false false false false true g i _ _ _ _ _ is _ _ h = is_token Snapshot tt (same word (codes "snapshot") is) h
        at false false false false false false true i _ _ _ _ _ _ is _ h = is_token Sum tt (same word (codes "sum") is) h
        at false false false false false false false true _ _ _ _ _ _ _ is h = is_token Compact tt (same word (codes "compact") is) h
        at false false false false false false false false _ _ _ _ _ _ _ _ h = none_some q h

    numbered_sound : (word rest : List ℕ) (q : Query T) → numbered_query word rest ≡ Some q → Spells (word ++ 32 ∷ rest) q
    numbered_sound word rest q h = at (bytes_eq word (codes "at")) (bytes_eq word (codes "head")) (bytes_eq word (codes "page")) refl refl refl h
      where
        -- a word and a number
        one : (text : List ℕ) (make : ℕ → Query T) → ((n : ℕ) → query_line texts (make n) ≡ text ++ 32 ∷ decimal n)
            → ((n : ℕ) → n < 2 ^ 64 → QueryFits texts (make n)) → bytes_eq word text ≡ true
            → option_map make (number_of rest) ≡ Some q → Spells (word ++ 32 ∷ rest) q
        one text make line fits is h =
            let made = map_some (number_of rest) make q h in
            let read = number_sound rest made.0 made.1 in
            subst (Spells (word ++ 32 ∷ rest)) made.2 ((λ i. same word text is i ++ 32 ∷ read.0 i) ∙ sym (line made.0), fits made.0 read.1)

        at : (a b c : Bool) → bytes_eq word (codes "at") ≡ a → bytes_eq word (codes "head") ≡ b → bytes_eq word (codes "page") ≡ c
            → cond a (option_map At (number_of rest))
            (cond b (option_map Head (number_of rest))
            (cond c (option_map (λ p. Page p.0 p.1) (two_numbers rest)) None))
            ≡ Some q
            → Spells (word ++ 32 ∷ rest) q
        at true b c is _ _ h = one (codes "at") At (λ n. refl) (λ n fit. fit) is h
        at false true c _ is _ h = one (codes "head") Head (λ n. refl) (λ n fit. fit) is h
        at false false true _ _ is h =
            let made = map_some (two_numbers rest) (λ p. Page p.0 p.1) q h in
            let read = two_sound rest made.0 made.1 in
            subst (Spells (word ++ 32 ∷ rest)) made.2 ((λ i. same word (codes "page") is i ++ 32 ∷ read.0 i), (read.1, read.2))
        at false false false _ _ _ h = none_some q h

    keyed_sound : (word rest : List ℕ) (q : Query T) → keyed_query texts word rest ≡ Some q → Spells (word ++ 32 ∷ rest) q
    keyed_sound word rest q h = at (bytes_eq word (codes "get")) (bytes_eq word (codes "rank")) (bytes_eq word (codes "range")) refl refl refl h
      where
        -- a word and a key
        one : (text : List ℕ) (make : T → Query T)
            → ((k : T) → query_line texts (make k) ≡ text ++ 32 ∷ texts.text k)
            → ((k : T) → texts.InRange k → QueryFits texts (make k)) → bytes_eq word text ≡ true
            → option_map make (texts.parse rest) ≡ Some q → Spells (word ++ 32 ∷ rest) q
        one text make line fits is h =
            let made = map_some (texts.parse rest) make q h in
            let read = words.items.only rest made.0 made.1 in
            subst (Spells (word ++ 32 ∷ rest)) made.2 ((λ i. same word text is i ++ 32 ∷ read.0 i) ∙ sym (line made.0), fits made.0 read.1)

        at : (a b c : Bool) → bytes_eq word (codes "get") ≡ a → bytes_eq word (codes "rank") ≡ b → bytes_eq word (codes "range") ≡ c
            → cond a (option_map Get (texts.parse rest))
            (cond b (option_map Rank (texts.parse rest))
            (cond c (option_map (λ p. Range p.0 p.1) (two_keys texts rest)) (numbered_query word rest)))
            ≡ Some q
            → Spells (word ++ 32 ∷ rest) q
        at true b c is _ _ h = one (codes "get") Get (λ k. refl) (λ k fit. fit) is h
        at false true c _ is _ h = one (codes "rank") Rank (λ k. refl) (λ k fit. fit) is h
        at false false true _ _ is h =
            let made = map_some (two_keys texts rest) (λ p. Range p.0 p.1) q h in
            let read = two_keys_sound texts words rest made.0 made.1 in
            subst (Spells (word ++ 32 ∷ rest)) made.2 ((λ i. same word (codes "range") is i ++ 32 ∷ read.0 i), (read.1, read.2))
        at false false false _ _ _ h = numbered_sound word rest q h

    pub query_sound : (line : List ℕ) (q : Query T) → query_of texts line ≡ Some q → (line ≡ query_line texts q) × QueryFits texts q
    query_sound line q e = at (cut_at 32 line) refl e
      where
        at : (o : Option (List ℕ × List ℕ)) → cut_at 32 line ≡ o → option_map_or (λ cut. keyed_query texts cut.0 cut.1) o (word_query line) ≡ Some q → Spells line q
        at None is h = word_sound line q h
        at (Some cut) is h =
            let read = keyed_sound cut.0 cut.1 q h in
            (cut_sound 32 line cut.0 cut.1 is ∙ read.0, read.1)
