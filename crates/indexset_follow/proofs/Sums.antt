-- The sum of a follower's state has at most 64 bits, and is the first bytes of the digest.
use Rattle.std.proofs.Common.{◌≡◌, ℕ, zero, suc, ◌<◌, ◌^◌, List, [], ◌∷◌, ◌++◌, take, get_or, sym, ap, ◌∙◌, arith}
use Rattle.std.proofs.lemmas.List.{get_or-take}
use Rattle.std.proofs.lemmas.List.Elements.{All-append, All-cons, All-head, All-nil, All-tail}
use Rattle.std.specs.Int.{w32, w64, byte_at, from_be_bytes, to_be_bytes}
use Rattle.std.specs.List.{All}
use Rattle.sha2.specs.Sha256.{digest_bytes, sha256}
use Rattle.std.specs.Prelude.{slice_index}
use Rattle.indexset_follow.specs.Copy.{Copy, body_text, sum_of}
use Rattle.indexset_wire.specs.Texts.{Texts}

abbrev IsByte : ℕ → Type 0
IsByte b = b < 256

byte_small : (i n : ℕ) → IsByte (byte_at i n)
byte_small zero n = omega arith
byte_small (suc i) n = omega arith

four_small : (n : ℕ) → All IsByte (to_be_bytes w32 n)
four_small n =
    All-cons IsByte (byte_at 3 n) (byte_at 2 n ∷ byte_at 1 n ∷ byte_at 0 n ∷ []) (byte_small 3 n)
    (All-cons IsByte (byte_at 2 n) (byte_at 1 n ∷ byte_at 0 n ∷ []) (byte_small 2 n)
    (All-cons IsByte (byte_at 1 n) (byte_at 0 n ∷ []) (byte_small 1 n)
    (All-cons IsByte (byte_at 0 n) [] (byte_small 0 n) (All-nil IsByte))))

digest_small : (h : List ℕ) (n : ℕ) → All IsByte (digest_bytes h n)
unfolding digest_bytes
digest_small h zero = All-nil IsByte
digest_small h (suc n) = All-append IsByte (digest_bytes h n) (to_be_bytes w32 (slice_index h n)) (digest_small h n) (four_small (slice_index h n))

at_small : (bs : List ℕ) → All IsByte bs → (i : ℕ) → get_or bs i 0 < 256
at_small [] small i = omega arith
at_small (b ∷ bs) small zero = All-head IsByte b bs small
at_small (b ∷ bs) small (suc i) = at_small bs (All-tail IsByte b bs small) i

take_small : (k : ℕ) (bs : List ℕ) → All IsByte bs → All IsByte (take k bs)
take_small zero bs small = All-nil IsByte
take_small (suc k) [] small = All-nil IsByte
take_small (suc k) (b ∷ bs) small = All-cons IsByte b (take k bs) (All-head IsByte b bs small) (take_small k bs (All-tail IsByte b bs small))

eight_small : (bs : List ℕ) → All IsByte bs → from_be_bytes w64 bs < 2 ^ 64
eight_small bs small =
    omega (arith, at_small bs small 0, at_small bs small 1, at_small bs small 2, at_small bs small 3, at_small bs small 4, at_small bs small 5, at_small bs small 6, at_small bs small 7)

module _ {T : Type 0} (texts : Texts T) where
  pub sum_small : (c : Copy T) (d : ℕ) → sum_of texts c d < 2 ^ 64
  unfolding sum_of sha256
  sum_small c d = eight_small (take 8 (sha256 (body_text texts c d))) (take_small 8 (sha256 (body_text texts c d)) (digest_small _ 8))

-- ---- the first bytes of the digest

pub first_eight : (d : List ℕ)
    → from_be_bytes w64
    (get_or d 0 0 ∷ get_or d 1 0 ∷ get_or d 2 0 ∷ get_or d 3 0 ∷ get_or d 4 0 ∷ get_or d 5 0 ∷ get_or d 6 0
    ∷ get_or d 7 0 ∷ [])
    ≡ from_be_bytes w64 (take 8 d)
first_eight d =
    λ i.
    from_be_bytes w64
    (at 0 (omega arith) i ∷ at 1 (omega arith) i ∷ at 2 (omega arith) i ∷ at 3 (omega arith) i ∷ at 4 (omega arith) i
    ∷ at 5 (omega arith) i ∷ at 6 (omega arith) i ∷ at 7 (omega arith) i ∷ [])
  where
    at : (k : ℕ) → k < 8 → get_or d k 0 ≡ get_or (take 8 d) k 0
    at k lt = sym (get_or-take 8 d k 0 lt)

-- appending to an empty list gives the appended list
pub appended_alone : (a b x : List ℕ) → b ≡ a ++ x → a ≡ [] → b ≡ x
appended_alone a b x told none = told ∙ ap (λ l. l ++ x) none
