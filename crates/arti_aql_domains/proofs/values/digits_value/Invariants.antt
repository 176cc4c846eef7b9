use Rattle.std.proofs.Common.{◌≡◌, ◌<◌, ◌^◌, take}
use Rattle.arti_aql_parse.specs.Words.{digits_value}
use Rattle.arti_aql_domains.proofs.values.digits_value.Given as goal

abbrev pub invariant-loop-digit : goal.invariant-loop-digit
invariant-loop-digit l = record {
  value : l.value ≡ digits_value (take l.digit-index l.digits);
  small : l.value < 10 ^ l.digit-index;
}
