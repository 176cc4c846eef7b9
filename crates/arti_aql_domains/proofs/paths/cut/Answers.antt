use Rattle.std.proofs.Common.{sym, ◌∙◌, lit<}
use Rattle.arti_aql_domains.proofs.Cuts.{whole_part, first_part}
use Rattle.arti_aql_domains.proofs.paths.cut.Goals as goal

pub returns-in-Some-clause-parts : goal.returns-in-Some-clause-parts
returns-in-Some-clause-parts c =
    let parts = c.in-Some.ensures.byte (lit< tt) (λ w o h. h) in
    first_part c.args.path.now c.in-Some.name.now c.in-Some.rest.now (sym c.is_property_text.ensures ∙ c.if-is_property_text.false) parts.0 parts.1 parts.2

pub returns-in-None-clause-parts : goal.returns-in-None-clause-parts
returns-in-None-clause-parts c =
    whole_part c.args.path.now (sym c.is_property_text.ensures ∙ c.if-is_property_text.false) (c.in-None.ensures.byte (lit< tt) (λ w o h. h))
