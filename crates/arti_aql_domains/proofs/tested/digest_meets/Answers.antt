use Rattle.std.proofs.Common.{◌≡◌, true, List, [], ◌∷◌, ℕ, ltb, sym, refl, subst, rules}
use Rattle.std.specs.List.{list_all}
use Rattle.std.specs.Str.{IsAscii, IsUtf8}
use Rattle.std.proofs.lemmas.Bool.{and_parts, ltb-true}
use Rattle.std.proofs.lemmas.Str.{IsUtf8-from_ascii}
use Rattle.std.proofs.lemmas.Str.Ascii.{IsAscii-nil, IsAscii-cons}
use Rattle.hex.specs.Hex.{encode_lower, lower_digits}
use Rattle.hex.proofs.HexLemmas.{IsAscii-encode_with}
use Rattle.arti_aql_domains.proofs.tested.digest_meets.Goals as goal

ascii_by_test : (bs : List ℕ) → list_all (λ b. ltb b 128) bs ≡ true → IsAscii bs
ascii_by_test [] h = IsAscii-nil
ascii_by_test (b ∷ bs) h = let p = and_parts (ltb b 128) (list_all (λ c. ltb c 128) bs) h in IsAscii-cons b bs (ltb-true b 128 p.0) (ascii_by_test bs p.1)

ascii_digits : IsAscii lower_digits
ascii_digits = ascii_by_test lower_digits refl

pub returns-in-Err : goal.returns-in-Err
returns-in-Err c =
    let written : c.encode_to_slice.new.output ≡ encode_lower c.args.digest.now = search rules in
    let text : IsUtf8 (encode_lower c.args.digest.now) = IsUtf8-from_ascii (encode_lower c.args.digest.now) (IsAscii-encode_with lower_digits c.args.digest.now ascii_digits) in
    absurd (c.in-Err.ensures.cases.0 (subst (λ (bs : List ℕ). IsUtf8 bs) (sym written) text))
