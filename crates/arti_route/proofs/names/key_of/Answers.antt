use Rattle.std.proofs.Common.{◌≡◌, sym, ap, ◌∙◌, rules}
use Rattle.std.specs.Prelude.{Some}
use Rattle.arti_rows.specs.declared.fault.KeyFault.TheVariants as fault
use Rattle.arti_model.specs.Asks.{refusal_of}
use Rattle.arti_route.proofs.Naming.{key_read-apart, key_read-joined}
use Rattle.arti_route.proofs.names.key_of.Goals as goal

pub returns-in-Some-clause-refused : goal.returns-in-Some-clause-refused
returns-in-Some-clause-refused c = λ memory.
    let good = sym c.is_repo_key.ensures ∙ c.if-not-is_repo_key.false in
    let same = c.in-Some.ensures (λ e. let f : c.in-Some.fault ≡ fault.Memory = cc in memory (c.refusal_of.ensures ∙ ap refusal_of f)) in
    key_read-apart c.args.repo.now c.args.segments.now (Some c.in-Some.fault) good same ∙ search rules

pub returns-in-None-clause-ok : goal.returns-in-None-clause-ok
returns-in-None-clause-ok c =
    let good = sym c.is_repo_key.ensures ∙ c.if-not-is_repo_key.false in
    let is = key_read-joined c.args.repo.now c.args.segments.now good (c.in-None.ensures (λ e. absurd cc)) in
    rw is c.joined_key.ensures.ok

pub returns-in-None-clause-refused : goal.returns-in-None-clause-refused
returns-in-None-clause-refused c =
    let good = sym c.is_repo_key.ensures ∙ c.if-not-is_repo_key.false in
    let is = key_read-joined c.args.repo.now c.args.segments.now good (c.in-None.ensures (λ e. absurd cc)) in
    rw is c.joined_key.ensures.refused
