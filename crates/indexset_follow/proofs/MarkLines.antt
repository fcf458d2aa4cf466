-- A line is a mark if and only if it is the text of that mark.
use Rattle.std.proofs.Common.{Option, None, Some, IfSome, ◌≡◌, ℕ, ◌<◌, ◌^◌, ◌==◌, Bool, true, false, cond, List, [], ◌∷◌, ◌++◌, refl, ap, sym, subst, ◌∙◌, arith, append-nil}
use lib.Chars.{codes}
use Rattle.std.proofs.lemmas.Bool.{eqb-true}
use Rattle.std.specs.Fmt.{decimal}
use Rattle.std.specs.Option.{option_and_then, option_map, option_map_or}
use Rattle.std.specs.Str.{bytes_eq}
use Rattle.indexset_wire.specs.Numbers.{number_of}
use Rattle.indexset_wire.specs.Parts.{cut_at}
use Rattle.indexset_wire.specs.Numbers.Laws.{number_lacks, number_sound, number_told}
use Rattle.indexset_wire.specs.Parts.Laws.{cut_sound, cut_told, lacks_tested, map_some, none_some, some_inj, then_some}
use Rattle.indexset_follow.specs.Mark.{MarkFits, end_of, mark_line, mark_of, start_of, sum_text, word_mark}
use Rattle.indexset_follow.specs.Numbers.{tail_text, two_numbers}
use Rattle.indexset_follow.specs.declared.mark.Mark.{Mark}
use Rattle.indexset_follow.specs.declared.mark.Mark.TheVariants.{Start, End, Done}
use Rattle.indexset_follow.proofs.Passing.{uncut}
use Rattle.indexset_follow.proofs.QueryLines.{same, two_sound, two_told}

-- the text of two numbers is not that of one
two_apart : (a b : ℕ) → a < 2 ^ 64 → number_of (decimal a ++ 32 ∷ decimal b) ≡ None
two_apart a b small = at (number_of (decimal a ++ 32 ∷ decimal b)) refl
  where
    cut : cut_at 32 (decimal a ++ 32 ∷ decimal b) ≡ Some (decimal a, decimal b)
    cut = cut_told 32 (decimal a) (decimal b) (number_lacks 32 (omega arith) a small)

    at : (o : Option ℕ) → number_of (decimal a ++ 32 ∷ decimal b) ≡ o → o ≡ None
    at None is = refl
    at (Some n) is =
        let read = number_sound (decimal a ++ 32 ∷ decimal b) n is in
        none_some (decimal a, decimal b) (sym (uncut 32 (decimal n) (number_lacks 32 (omega arith) n read.1)) ∙ ap (cut_at 32) (sym read.0) ∙ cut)

start_read : (n d : ℕ) → n < 2 ^ 64 → d < 2 ^ 64 → start_of (decimal n ++ tail_text d) ≡ Some (Start n d)
start_read n d small less = at (d == 0) refl
  where
    at : (b : Bool) → (d == 0) ≡ b → start_of (decimal n ++ cond b [] (32 ∷ decimal d)) ≡ Some (Start n d)
    at true is = rw (append-nil (decimal n), number_told n small) (ap (λ x. Some (Start n x)) (sym (eqb-true d 0 is)))
    at false other = rw (two_apart n d small, two_told n d small less, other) refl

pub start_cut : (n d : ℕ) → cut_at 32 (mark_line (Start n d)) ≡ Some (codes "start", decimal n ++ tail_text d)
start_cut n d = cut_told 32 (codes "start") (decimal n ++ tail_text d) (lacks_tested 32 (codes "start") refl)

end_read : (count : ℕ) (sum : Option ℕ) → count < 2 ^ 64 → IfSome sum (λ s. s < 2 ^ 64) → end_of (decimal count ++ sum_text sum) ≡ Some (End count sum)
end_read count None few small = rw (append-nil (decimal count), number_told count few) refl
end_read count (Some sum) few small = rw (two_apart count sum few, two_told count sum few small) refl

pub end_cut : (count : ℕ) (sum : Option ℕ) → cut_at 32 (mark_line (End count sum)) ≡ Some (codes "end", decimal count ++ sum_text sum)
end_cut count sum = cut_told 32 (codes "end") (decimal count ++ sum_text sum) (lacks_tested 32 (codes "end") refl)

pub done_cut : (d n : ℕ) → cut_at 32 (mark_line (Done d n)) ≡ Some (codes "done", decimal d ++ 32 ∷ decimal n)
done_cut d n = cut_told 32 (codes "done") (decimal d ++ 32 ∷ decimal n) (lacks_tested 32 (codes "done") refl)

pub mark_told : (m : Mark) → MarkFits m → mark_of (mark_line m) ≡ Some m
mark_told (Start n d) fit = rw (start_cut n d) (start_read n d fit.0 fit.1)
mark_told (End count sum) fit = rw (end_cut count sum) (end_read count sum fit.0 fit.1)
mark_told (Done d n) fit = rw (done_cut d n) (ap (option_map (λ p. Done p.0 p.1)) (two_told d n fit.0 fit.1))

-- the text is that of the mark
abbrev Spells : List ℕ → Mark → Type 0
Spells text m = (text ≡ mark_line m) × MarkFits m

start_sound : (text : List ℕ) (m : Mark) → start_of text ≡ Some m → Spells (codes "start " ++ text) m
start_sound text m h = at (number_of text) refl (two_numbers text) refl h
  where
    two : (p : ℕ × ℕ) → two_numbers text ≡ Some p → (b : Bool) → (p.1 == 0) ≡ b → cond b None (Some (Start p.0 p.1)) ≡ Some m → Spells (codes "start " ++ text) m
    two p is true _ h = none_some m h
    two p is false other h =
        let read = two_sound text p is in
        let tail : tail_text p.1 ≡ 32 ∷ decimal p.1 = rw other refl in
        subst (Spells (codes "start " ++ text)) (some_inj (Start p.0 p.1) m h) (ap (λ t. codes "start " ++ t) (read.0 ∙ ap (λ t. decimal p.0 ++ t) (sym tail)), (read.1, read.2))

    at : (o : Option ℕ) → number_of text ≡ o → (t : Option (ℕ × ℕ)) → two_numbers text ≡ t
        → option_map_or {U = Option Mark} (λ n. Some (Start n 0)) o (option_and_then (λ p. cond (p.1 == 0) None (Some (Start p.0 p.1))) t) ≡ Some m → Spells (codes "start " ++ text) m
    at (Some n) is t _ h =
        let read = number_sound text n is in
        subst (Spells (codes "start " ++ text)) (some_inj (Start n 0) m h) (ap (λ t. codes "start " ++ t) (read.0 ∙ sym (append-nil (decimal n))), (read.1, omega arith))
    at None _ None _ h = none_some m h
    at None _ (Some p) is h = two p is (p.1 == 0) refl h

end_sound : (text : List ℕ) (m : Mark) → end_of text ≡ Some m → Spells (codes "end " ++ text) m
end_sound text m h = at (number_of text) refl (two_numbers text) refl h
  where
    at : (o : Option ℕ) → number_of text ≡ o → (t : Option (ℕ × ℕ)) → two_numbers text ≡ t
        → option_map_or {U = Option Mark} (λ n. Some (End n None)) o (option_map (λ p. End p.0 (Some p.1)) t) ≡ Some m → Spells (codes "end " ++ text) m
    at (Some n) is t _ h =
        let read = number_sound text n is in
        subst (Spells (codes "end " ++ text)) (some_inj (End n None) m h) (ap (λ t. codes "end " ++ t) (read.0 ∙ sym (append-nil (decimal n))), (read.1, tt))
    at None _ None _ h = none_some m h
    at None _ (Some p) is h =
        let read = two_sound text p is in
        subst (Spells (codes "end " ++ text)) (some_inj (End p.0 (Some p.1)) m h) (ap (λ t. codes "end " ++ t) read.0, (read.1, read.2))

word_sound : (word rest : List ℕ) (m : Mark) → word_mark word rest ≡ Some m → Spells (word ++ 32 ∷ rest) m
word_sound word rest m h = at (bytes_eq word (codes "start")) (bytes_eq word (codes "end")) (bytes_eq word (codes "done")) refl refl refl h
  where
    two : (text : List ℕ) (make : ℕ × ℕ → Mark)
        → ((p : ℕ × ℕ) → mark_line (make p) ≡ text ++ 32 ∷ (decimal p.0 ++ 32 ∷ decimal p.1))
        → ((p : ℕ × ℕ) → p.0 < 2 ^ 64 → p.1 < 2 ^ 64 → MarkFits (make p)) → bytes_eq word text ≡ true
        → option_map make (two_numbers rest) ≡ Some m → Spells (word ++ 32 ∷ rest) m
    two text make line fits is h =
        let made = map_some (two_numbers rest) make m h in
        let read = two_sound rest made.0 made.1 in
        subst (Spells (word ++ 32 ∷ rest)) made.2 ((λ i. same word text is i ++ 32 ∷ read.0 i) ∙ sym (line made.0), fits made.0 read.1 read.2)

    at : (a b c : Bool) → bytes_eq word (codes "start") ≡ a → bytes_eq word (codes "end") ≡ b → bytes_eq word (codes "done") ≡ c
        → cond a (start_of rest) (cond b (end_of rest) (cond c (option_map (λ p. Done p.0 p.1) (two_numbers rest)) None)) ≡ Some m → Spells (word ++ 32 ∷ rest) m
    at true b c is _ _ h =
        let read = start_sound rest m h in
        (ap (λ w. w ++ 32 ∷ rest) (same word (codes "start") is) ∙ read.0, read.1)
    at false true c _ is _ h =
        let read = end_sound rest m h in
        (ap (λ w. w ++ 32 ∷ rest) (same word (codes "end") is) ∙ read.0, read.1)
    at false false true _ _ is h = two (codes "done") (λ p. Done p.0 p.1) (λ p. refl) (λ p first second. (first, second)) is h
    at false false false _ _ _ h = none_some m h

pub mark_sound : (line : List ℕ) (m : Mark) → mark_of line ≡ Some m → (line ≡ mark_line m) × MarkFits m
mark_sound line m e =
    let cut = then_some (cut_at 32 line) (λ cut. word_mark cut.0 cut.1) m e in
    let read = word_sound cut.0.0 cut.0.1 m cut.2 in
    (cut_sound 32 line cut.0.0 cut.0.1 cut.1 ∙ read.0, read.1)
