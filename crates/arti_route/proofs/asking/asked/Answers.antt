use Rattle.std.proofs.Common.{◌≡◌, ◌≢◌, rules}
use Rattle.std.specs.Prelude.{Result, Ok, Err}
use Rattle.arti_rows.specs.declared.refusal.Refusal.{Refusal}
use Rattle.arti_rows.specs.declared.refusal.Refusal.TheVariants as refusal
use Rattle.arti_model.specs.Requests.{Request}
use Rattle.arti_model.specs.Targets.{Target, target_read, bind}
use Rattle.arti_model.specs.Asks.{asked, route_read}
use Rattle.arti_model.specs.declared.asks.Route.{Route}
use Rattle.arti_model.specs.declared.asks.Ask.{Ask}
use Rattle.arti_route.specs.Asked.{asked_by}
use Rattle.arti_route.proofs.Steps.{bind-ok}
use Rattle.arti_route.proofs.asking.asked.Goals as goal

asked-by : (q : Request) (t : Target) (route : Route) (w : Result Ask Refusal) → target_read q.target ≡ Ok t → route_read q.method t.segments ≡ Ok route
    → asked_by route t q.fields ≡ w → asked q ≡ w
unfolding asked
asked-by q t route w first second third =
    bind-ok (target_read q.target) (λ t. bind (route_read q.method t.segments) (λ route. asked_by route t q.fields)) t w first
    (bind-ok (route_read q.method t.segments) (λ route. asked_by route t q.fields) route w second third)

pub returns-in_err-ask-clause-refused : goal.returns-in_err-ask-clause-refused
returns-in_err-ask-clause-refused c =
    let target : target_read c.args.request.now.target ≡ Ok c.in_ok-target.target = search rules in
    let route : route_read c.args.request.now.method c.in_ok-target.target.segments ≡ Ok c.in_ok-route.route = search rules in
    let read : c.in_err-ask.field-0.0 ≢ refusal.Memory → asked_by c.in_ok-route.route c.in_ok-target.target c.args.request.now.fields ≡ Err c.in_err-ask.field-0.0 = search rules in
    let refused : c.in_err-ask.field-0.0 ≢ refusal.Memory → asked c.args.request.now ≡ Err c.in_err-ask.field-0.0 =
    λ memory. asked-by c.args.request.now c.in_ok-target.target c.in_ok-route.route (Err c.in_err-ask.field-0.0) target route (read memory) in
    search (rules, refused)
