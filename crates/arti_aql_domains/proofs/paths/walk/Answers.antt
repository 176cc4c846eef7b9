use Rattle.std.proofs.Common.{rules, sym, ◌∙◌}
use Rattle.arti_aql_domains.proofs.Walks.{walks_first, walks_on, walks_nowhere, walks_all, walks_lead}
use Rattle.arti_aql_domains.proofs.paths.walk.Goals as goal

pub loop-name-init : goal.loop-name-init
loop-name-init c = (rw c.new-path.ensures.items (walks_first c.args.root c.args.text.now), search rules)

pub returns-in_default-relation_of-clause-relations : goal.returns-in_default-relation_of-clause-relations
returns-in_default-relation_of-clause-relations c =
    walks_nowhere c.args.root c.loop-name.domain c.args.text.now c.loop-name.rest.now c.in-Some.name.now c.in-Some.more.now c.loop-name.path.items
    c.loop-name.invariant.0 c.in-Some.ensures.parts (sym c.relation_of.ensures ∙ c.in_default-relation_of.is)

pub loop-name-preserved : goal.loop-name-preserved
loop-name-preserved c = (
  rw c.in_ok-push.ensures.items (walks_on c.args.root c.loop-name.domain c.in-Some-relation_of.rel c.args.text.now c.loop-name.rest.now c.in-Some.name.now c.in-Some.more.now
      c.loop-name.path.items c.loop-name.invariant.0 c.in-Some.ensures.parts (sym c.relation_of.ensures ∙ c.in-Some-relation_of.is)),
  search rules,
)

pub returns-clause-relations : goal.returns-clause-relations
returns-clause-relations c =
    walks_all c.args.root c.loop-name.domain c.args.text.now c.loop-name.rest.now c.loop-name.path.items c.loop-name.invariant.0 c.in_default.ensures.parts

pub returns-clause-leads : goal.returns-clause-leads
returns-clause-leads c =
    walks_lead c.args.root c.loop-name.domain c.args.text.now c.loop-name.rest.now c.loop-name.path.items c.loop-name.invariant.0 c.in_default.ensures.parts
