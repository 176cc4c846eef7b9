use Rattle.std.proofs.Common.{◌≡◌, ◌<◌, ℕ, true, get_or, take}
use Rattle.std.specs.List.{list_all}
use Rattle.std.specs.Char.{is_ascii_digit}
use Rattle.arti_aql_domains.proofs.values.are_all_digits.Given as goal

abbrev pub invariant-loop-digit : goal.invariant-loop-digit
invariant-loop-digit l = record {
  value : list_all is_ascii_digit (take l.digit-index l.digits) ≡ true;
  each : (k : ℕ) → k < l.digit-index → is_ascii_digit (get_or l.digits k 0) ≡ true;
}
