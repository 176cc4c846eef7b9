-- What is left to read of a request once its route is known.
use Rattle.std.specs.Prelude.{Result, Ok, List}
use Rattle.arti_rows.specs.declared.refusal.Refusal.{Refusal}
use Rattle.arti_model.specs.Requests.{FieldText}
use Rattle.arti_model.specs.Targets.{Target, bind}
use Rattle.arti_model.specs.Asks.{user_read, row_read}
use Rattle.arti_model.specs.declared.asks.Route.{Route}
use Rattle.arti_model.specs.declared.asks.Ask.{Ask}

-- what a route asks, and for which user
abbrev pub asked_by : Route → Target → List FieldText → Result Ask Refusal
asked_by route t fields = bind (user_read fields) (λ user. bind (row_read route t fields) (λ row. Ok (record { user = user; row = row })))
