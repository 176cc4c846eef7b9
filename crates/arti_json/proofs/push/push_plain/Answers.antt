use Rattle.std.proofs.Common.{rules, string_bytes}
use Rattle.arti_json.specs.EscapeLaws.{quoted-plain}
use Rattle.arti_json.proofs.push.push_plain.Goals as goal

pub returns : goal.returns
returns c = rw (← quoted-plain (string_bytes c.args.out.now) c.args.text.now c.requires) (search rules)
