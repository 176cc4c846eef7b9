use Rattle.std.proofs.Common.{◌≡◌, ◌+◌, [], length, lit<, arith, rules, sym, ap, ◌∙◌}
use Rattle.std.specs.Prelude.{nat_lt, if◌then◌else◌, ◌||◌, Some, None}
use Rattle.arti_rows.specs.Names.{segments_of}
use Rattle.arti_rows.specs.declared.fault.KeyFault.TheVariants.{TooLong}
use Rattle.arti_rows.specs.CutLaws.{first_cut, after_shorter, one_segment, fault_at, no_fault_at, by_length}
use Rattle.arti_rows.proofs.key.path_fault.Goals as goal

pub returns-in-Some-segment_fault : goal.returns-in-Some-segment_fault
returns-in-Some-segment_fault c =
    let m = c.in-Some.ensures.byte (lit< tt) (λ w o f. f) in
    fault_at c.args.whole.now c.segments.rest.now (segments_of c.in-Some.after.now) c.in-Some.segment.now c.in-Some-segment_fault.fault (first_cut c.segments.rest.now c.in-Some.segment.now c.in-Some.after.now m) c.in-Some-segment_fault.ensures c.segments.invariant.faults

pub segments-preserved : goal.segments-preserved
segments-preserved c =
    let m = c.in-Some.ensures.byte (lit< tt) (λ w o f. f) in
    let is = first_cut c.segments.rest.now c.in-Some.segment.now c.in-Some.after.now m in
    let shorter = after_shorter c.segments.rest.now c.in-Some.segment.now c.in-Some.after.now m in
    record {
      text = search rules;
      faults = sym (no_fault_at c.segments.rest.now (segments_of c.in-Some.after.now) c.in-Some.segment.now is c.in-None-segment_fault.ensures) ∙ c.segments.invariant.faults;
      count = let more = ap length is in omega (arith, more, c.segments.invariant.count);
      short = omega (arith, shorter, c.segments.invariant.short);
    }

pub returns-in-Some-segment_fault-2 : goal.returns-in-Some-segment_fault-2
returns-in-Some-segment_fault-2 c = fault_at c.args.whole.now c.segments.rest.now [] c.segments.rest.now c.in-Some-segment_fault-2.fault (one_segment c.segments.rest.now c.in-None.ensures.cases) c.in-Some-segment_fault-2.ensures c.segments.invariant.faults

pub returns-in-None-segment_fault-2 : goal.returns-in-None-segment_fault-2
returns-in-None-segment_fault-2 c =
    let is = one_segment c.segments.rest.now c.in-None.ensures.cases in
    let none = sym c.segments.invariant.faults ∙ no_fault_at c.segments.rest.now [] c.segments.rest.now is c.in-None-segment_fault-2.ensures in
    let count : c.segments.before + 1 ≡ length (segments_of c.args.whole.now) = let more = ap length is in omega (arith, more, c.segments.invariant.count) in
    c.length_fault.ensures ∙ ap (λ n. if nat_lt 1024 (length c.args.whole.now) || nat_lt 64 n then Some TooLong else None) count ∙ sym (by_length c.args.whole.now none)
