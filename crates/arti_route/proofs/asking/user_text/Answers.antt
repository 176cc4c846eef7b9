use Rattle.std.proofs.Common.{◌≡◌, ◌<◌, ℕ, true, List, [], ◌∷◌, zero, suc, sym, ◌∙◌, arith}
use Rattle.std.specs.Prelude.{slice_index}
use Rattle.std.specs.List.{list_all}
use Rattle.std.proofs.lemmas.Bool.{and_parts}
use Rattle.std.proofs.lemmas.Bool.Decides.{nat_tests}
use Rattle.std.proofs.lemmas.Str.{IsUtf8-from_ascii}
use Rattle.arti_model.specs.Asks.{is_user, is_user_byte}
use Rattle.arti_route.proofs.asking.user_text.Goals as goal

low : (b : ℕ) → is_user_byte b ≡ true → b < 128
low b is = grind (arith, nat_tests, is)

ascii : (name : List ℕ) (i : ℕ) → list_all is_user_byte name ≡ true → slice_index name i < 128
ascii [] i all = omega arith
ascii (b ∷ name) zero all = low b (and_parts (is_user_byte b) (list_all is_user_byte name) all).0
ascii (b ∷ name) (suc i) all = ascii name i (and_parts (is_user_byte b) (list_all is_user_byte name) all).1

pub returns-in-Err : goal.returns-in-Err
returns-in-Err c =
    let user : is_user c.args.name.now ≡ true = sym c.is_user.ensures ∙ c.if-not-is_user.false in
    let all : list_all is_user_byte c.args.name.now ≡ true = grind (arith, user) in
    absurd (c.in-Err.ensures.cases.0 (IsUtf8-from_ascii c.args.name.now (λ i. ascii c.args.name.now i all)))
