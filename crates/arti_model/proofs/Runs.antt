-- Runs without want of memory.
use Rattle.std.proofs.Common.{ℤ, List, [], ◌∷◌, drop, inl, refl}
use Rattle.arti_rows.specs.declared.limits.Limits.{Limits}
use Rattle.arti_model.specs.Requests.{Whole, Ending}
use Rattle.arti_model.specs.Stock.{Stock}
use Rattle.arti_model.specs.Step.{step}
use Rattle.arti_model.specs.Run.{first_of, AnswersAll, run_bytes}

pub steps_answer : (limits : Limits) (moments : List ℤ) (s : Stock) (qs : List Whole) (ending : Ending) → AnswersAll limits moments s qs ending (run_bytes limits moments s qs ending)
steps_answer limits moments s [] ending = refl
steps_answer limits moments s (q ∷ qs) ending =
    let answer = step limits s q (first_of moments) in
    (answer.reply, run_bytes limits (drop 1 moments) answer.stock qs ending, refl, inl refl, steps_answer limits (drop 1 moments) answer.stock qs ending)
