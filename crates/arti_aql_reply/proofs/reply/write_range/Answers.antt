use Rattle.std.proofs.Common.{◌≡◌, ℕ, List, ◌+◌, ◌++◌}
use Rattle.std.specs.Prelude.{codes, decimal}
use Rattle.arti_model.specs.Query.{limit_text}
use Rattle.arti_aql_reply.proofs.Pieces.{after_two}
use Rattle.arti_aql_reply.proofs.reply.write_range.Goals as goal

pub returns : goal.returns
returns c =
    let o = c.args.out.now.items in
    let p0 : List ℕ = codes "{\"start_pos\":" in
    let e0 : c.write_plain.new.out.items ≡ o ++ p0 = c.in_ok-write_plain.ensures in
    let p1 : List ℕ = decimal c.args.offset in
    let e1 : c.write_number.new.out.items ≡ c.write_plain.new.out.items ++ p1 = c.in_ok-write_number.ensures.ok in
    let p2 : List ℕ = codes ",\"end_pos\":" in
    let e2 : c.write_plain-2.new.out.items ≡ c.write_number.new.out.items ++ p2 = c.in_ok-write_plain-2.ensures in
    let p3 : List ℕ = decimal (c.args.offset + c.args.total) in
    let e3 : c.write_number-2.new.out.items ≡ c.write_plain-2.new.out.items ++ p3 = c.in_ok-write_number-2.ensures.ok in
    let p4 : List ℕ = codes ",\"total\":" in
    let e4 : c.write_plain-3.new.out.items ≡ c.write_number-2.new.out.items ++ p4 = c.in_ok-write_plain-3.ensures in
    let p5 : List ℕ = decimal c.args.total in
    let e5 : c.write_number-3.new.out.items ≡ c.write_plain-3.new.out.items ++ p5 = c.in_ok-write_number-3.ensures.ok in
    let p6 : List ℕ = limit_text c.args.limit in
    let e6 : c.write_limit.new.out.items ≡ c.write_number-3.new.out.items ++ p6 = c.in_ok-write_limit.ensures in
    let p7 : List ℕ = codes "}" in
    let e7 : c.write_plain-4.new.out.items ≡ c.write_limit.new.out.items ++ p7 = c.in_ok-write_plain-4.ensures in
    let s1 : c.write_number.new.out.items ≡ o ++ (p0 ++ p1) = after_two o (p0) p1 _ _ e0 e1 in
    let s2 : c.write_plain-2.new.out.items ≡ o ++ ((p0 ++ p1) ++ p2) = after_two o ((p0 ++ p1)) p2 _ _ s1 e2 in
    let s3 : c.write_number-2.new.out.items ≡ o ++ (((p0 ++ p1) ++ p2) ++ p3) = after_two o (((p0 ++ p1) ++ p2)) p3 _ _ s2 e3 in
    let s4 : c.write_plain-3.new.out.items ≡ o ++ ((((p0 ++ p1) ++ p2) ++ p3) ++ p4) = after_two o ((((p0 ++ p1) ++ p2) ++ p3)) p4 _ _ s3 e4 in
    let s5 : c.write_number-3.new.out.items ≡ o ++ (((((p0 ++ p1) ++ p2) ++ p3) ++ p4) ++ p5) = after_two o (((((p0 ++ p1) ++ p2) ++ p3) ++ p4)) p5 _ _ s4 e5 in
    let s6 : c.write_limit.new.out.items ≡ o ++ ((((((p0 ++ p1) ++ p2) ++ p3) ++ p4) ++ p5) ++ p6) = after_two o ((((((p0 ++ p1) ++ p2) ++ p3) ++ p4) ++ p5)) p6 _ _ s5 e6 in
    after_two o (((((((p0 ++ p1) ++ p2) ++ p3) ++ p4) ++ p5) ++ p6)) p7 _ _ s6 e7
