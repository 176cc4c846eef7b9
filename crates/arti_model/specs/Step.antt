-- What one request does to a store, and its reply: what is decided of it over the repository, performed (of this project, after the REST API of
-- JFrog Artifactory).
use Rattle.std.specs.Prelude.{ℤ}
use Rattle.arti_rows.specs.declared.limits.Limits.{Limits}
use Rattle.arti_model.specs.Requests.{Whole}
use Rattle.arti_model.specs.Heads.{is_head}
use Rattle.arti_model.specs.Store.{File}
use Rattle.arti_model.specs.Stock.{Stock, Answer, reference_to}
use Rattle.arti_model.specs.Decide.{ask_of, Decision, decided, file_of_body}
use Rattle.arti_model.specs.Perform.{perform}

-- what is decided of a request over what a store has
abbrev pub decision_on : Limits → Stock → Whole → ℤ → Decision File
decision_on limits s q moment =
    decided (λ file. reference_to file s.holding.kept) limits s.holding.repository (ask_of q.head) q.body (file_of_body q.body) moment

-- one request at a moment
unfoldable pub step : Limits → Stock → Whole → ℤ → Answer
step limits s q moment = perform limits s (is_head q.head) (decision_on limits s q moment)
