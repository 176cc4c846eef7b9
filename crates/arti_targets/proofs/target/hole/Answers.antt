use Rattle.std.proofs.Common.{rules, ◌≤◌, ◌≡◌, ◌∙◌, sym, ap, arith, ⊎_elim, false, true}
use Rattle.std.proofs.lemmas.Bool.{le-ltb, lt-ltb}
use Rattle.std.specs.Prelude.{nat_lt, ◌&&◌}
use Rattle.arti_targets.specs.Targets.{is_digit}
use Rattle.arti_targets.proofs.ReadingLemmas.{hole_empty, hole_closes, hole_ends, hole_goes_on, hole_open, digit_is}
use Rattle.arti_targets.proofs.target.hole.Goals as goal

pub returns-then-seen-eq0 : goal.returns-then-seen-eq0
returns-then-seen-eq0 c = sym (hole_empty c.digits.seen c.digits.number c.digits.c-index c.c-item.result c.args.rest.now c.digits-test.true c.c-item.is c.if-c-eq125.true c.if-seen-eq0.true) ∙ c.digits.invariant.same

pub returns-else-seen-eq0 : goal.returns-else-seen-eq0
returns-else-seen-eq0 c = sym (hole_closes c.digits.seen c.digits.number c.digits.c-index c.c-item.result c.args.rest.now c.digits-test.true c.c-item.is c.if-c-eq125.true c.if-seen-eq0.false) ∙ c.digits.invariant.same

pub returns-then-not-is_digit : goal.returns-then-not-is_digit
returns-then-not-is_digit c =
    let no : (is_digit c.c-item.result && nat_lt c.digits.seen 3) ≡ false = ⊎_elim (λ (e : c.is_digit.result ≡ false). ap (λ b. b && nat_lt c.digits.seen 3) (sym c.is_digit.ensures ∙ e)) (λ (e : (c.is_digit.result ≡ true) × (3 ≤ c.digits.seen)). ap (λ b. b && nat_lt c.digits.seen 3) (sym c.is_digit.ensures ∙ e.0) ∙ le-ltb c.digits.seen 3 e.1) c.then-not-is_digit.either in
    sym (hole_ends c.digits.seen c.digits.number c.digits.c-index c.c-item.result c.args.rest.now c.digits-test.true c.c-item.is c.if-c-eq125.false no) ∙ c.digits.invariant.same

pub digits-preserved : goal.digits-preserved
digits-preserved c =
    let yes : is_digit c.c-item.result ≡ true = search rules in
    let few : nat_lt c.digits.seen 3 ≡ true = lt-ltb c.digits.seen 3 (omega arith) in
    let both : (is_digit c.c-item.result && nat_lt c.digits.seen 3) ≡ true = rw (yes, few) in
    let is : c.from.result ≡ c.c-item.result = search rules in
    let range = digit_is c.c-item.result yes in
    let i = c.digits.invariant in
    record {
      same = rw is (hole_goes_on c.digits.seen c.digits.number c.digits.c-index c.c-item.result c.args.rest.now c.digits-test.true c.c-item.is c.if-c-eq125.false both ∙ i.same);
      few = omega arith;
      three = omega (arith, range, is, i.two);
      two = λ h. omega (arith, range, is, i.one, h);
      one = λ h. omega (arith, range, is, i.none, h);
      none = λ h. omega (arith, h);
    }

pub returns : goal.returns
returns c = sym (hole_open c.digits.seen c.digits.number c.digits.c-index c.args.rest.now (omega arith)) ∙ c.digits.invariant.same
