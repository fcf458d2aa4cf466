-- Numbers, and how they are read.
pub mod Laws
use Rattle.std.specs.Prelude.{ℕ, ◌-◌, ◌^◌, ◌==◌, ◌&&◌, if◌then◌else◌, nat_le, nat_lt}
use Rattle.std.specs.Prelude.{ℤ, pos, negsuc, List, get_or, drop, Option, None, Some}
use Rattle.std.specs.Fmt.{decimal}
use Rattle.std.specs.Option.{option_and_then}
use Rattle.std.specs.Str.{bytes_eq}
use Rattle.std.specs.Str.Parse.{digits_value}

-- the number below 2^64 with this plain decimal text, if any
unfoldable pub number_of : List ℕ → Option ℕ
number_of text = let n = digits_value 10 text in
    if nat_lt n (2 ^ 64) && bytes_eq text (decimal n) then Some n else None

-- the same, below a bound
abbrev pub number_below : ℕ → List ℕ → Option ℕ
number_below bound text =
    option_and_then (λ n. if nat_lt n bound then Some n else None) (number_of text)

-- the signed number from -half to below half with this plain decimal text, if any
unfoldable pub signed_below : ℕ → List ℕ → Option ℤ
signed_below half text =
    if get_or text 0 0 == 45
    then
    option_and_then (λ n. if nat_lt 0 n && nat_le n half then Some (negsuc (n - 1)) else None)
    (number_of (drop 1 text))
    else option_and_then (λ n. if nat_lt n half then Some (pos n) else None) (number_of text)
