use Rattle.std.proofs.Common.{rules, lit<, []}
use Rattle.std.specs.List.{slice_split}
use Rattle.arti_rows.proofs.PropTexts.{comma, keys_fault, keys_all, first_key, one_key, keys_step}
use Rattle.arti_rows.proofs.props.read_keys.Goals as goal

pub returns-in_err-add_key-in-Some-clause-bad_props : goal.returns-in_err-add_key-in-Some-clause-bad_props
returns-in_err-add_key-in-Some-clause-bad_props c = λ is.
    let m = c.in-Some.ensures.byte (lit< tt) (λ w o f. f) in
    keys_fault c.args.text.now c.keys.rest.now c.in-Some.key.now (slice_split comma c.in-Some.after.now) (first_key c.keys.rest.now c.in-Some.key.now c.in-Some.after.now m) c.keys.invariant.good (c.in_err-add_key-in-Some.ensures.bad_props (search rules))

pub keys-preserved : goal.keys-preserved
keys-preserved c =
    let m = c.in-Some.ensures.byte (lit< tt) (λ w o f. f) in
    let step = keys_step c.args.text.now c.keys.rest.now c.in-Some.key.now c.in-Some.after.now c.keys.keys.keys c.add_key.new.keys.keys (first_key c.keys.rest.now c.in-Some.key.now c.in-Some.after.now m) c.keys.invariant.good c.keys.invariant.more c.in_ok-add_key-in-Some.ensures.good c.in_ok-add_key-in-Some.ensures.more in
    record { text = search rules; good = step.0; more = step.1 }

pub returns-in_err-add_key-in-None-clause-bad_props : goal.returns-in_err-add_key-in-None-clause-bad_props
returns-in_err-add_key-in-None-clause-bad_props c = λ is.
    keys_fault c.args.text.now c.keys.rest.now c.keys.rest.now [] (one_key c.keys.rest.now c.in-None.ensures.cases) c.keys.invariant.good (c.in_err-add_key-in-None.ensures.bad_props (search rules))

pub returns-in-None-clause-value : goal.returns-in-None-clause-value
returns-in-None-clause-value c =
    keys_all c.args.text.now c.keys.rest.now c.keys.keys.keys c.in_ok-listed-in-None.field-0.items (one_key c.keys.rest.now c.in-None.ensures.cases) c.keys.invariant.good c.keys.invariant.more c.in_ok-add_key-in-None.ensures.good (search rules)
