use Rattle.std.proofs.Common.{◌≡◌, rules, subst}
use Rattle.std.specs.Str.{IsUtf8}
use Rattle.percent_encoding.specs.Percent.{percent_decode}
use Rattle.percent_encoding.specs.Iter.{decoded_bytes}
use Rattle.arti_route.proofs.Targets.{part_read-ok, part_read-err}
use Rattle.arti_route.proofs.target.decoded.Goals as goal

pub returns-in_ok-from_str-in-Ok-clause-ok : goal.returns-in_ok-from_str-in-Ok-clause-ok
returns-in_ok-from_str-in-Ok-clause-ok c =
    let same : decoded_bytes c.percent_decode.result ≡ percent_decode c.args.part.now = search rules in
    let is : c.in_ok-from_str-in-Ok.field-0 ≡ percent_decode c.args.part.now = search rules in
    part_read-ok c.args.part.now c.in_ok-from_str-in-Ok.field-0 is (subst IsUtf8 same c.in-Ok.ensures.ok_only_if_utf8)

pub returns-in-Err-Utf8-clause-refused : goal.returns-in-Err-Utf8-clause-refused
returns-in-Err-Utf8-clause-refused c = λ no.
    let same : percent_decode c.args.part.now ≡ decoded_bytes c.percent_decode.result = search rules in
    part_read-err c.args.part.now (λ good. let e = c.in-Err-Utf8.ensures.utf8 (subst IsUtf8 same good) in absurd cc)
