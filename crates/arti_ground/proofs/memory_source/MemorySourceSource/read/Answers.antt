use Rattle.std.proofs.Common.{rules, ◌≡◌, ◌≤◌, ◌⊎◌, inl, inr, length, ◌+◌, ◌-◌, drop, take, ℕ, List, ◌++◌, arith, subst, ap, length-append, length-drop}
use Rattle.std.proofs.lemmas.List.{length-take}
use Rattle.std.proofs.lemmas.Bool.{cases_eq}
use Rattle.arti_ground.specs.Sources.{Takes}
use Rattle.arti_ground.proofs.Inputs.{takes_copied}
use Rattle.arti_ground.proofs.memory_source.MemorySourceSource.read.Goals as goal

pub returns-clause-taken : goal.returns-clause-taken
returns-clause-taken c =
    let n = c.min-n.result in
    let bytes = c.self.inside.bytes.items in
    let same : c.copy_from_slice.new.self ≡ take (c.self.inside.place + n - c.self.inside.place) (drop c.self.inside.place bytes) = search rules in
    let left : drop c.self.inside.place bytes ≡ c.args.self.now.left = search rules in
    let end : n ≡ 0 → length (c.copy_from_slice.new.self ++ drop n c.args.buf.now) ≡ 0 ⊎ (length bytes ≤ c.self.inside.place) = λ none. elim (cases_eq c.most_of.result 0) [
      | inl no_room ↦ inl (omega (arith, length-append c.copy_from_slice.new.self (drop n c.args.buf.now), length-drop n c.args.buf.now, c.most_of.ensures.some no_room, ap length same, length-take (c.self.inside.place + n - c.self.inside.place) (drop c.self.inside.place bytes)))
      | inr room ↦ inr (omega (arith, c.min-n.ensures, room, none))
    ] in
    subst (λ (l : List ℕ). Takes l (drop (c.self.inside.place + n) bytes) (c.copy_from_slice.new.self ++ drop n c.args.buf.now) n) left
    (takes_copied bytes c.copy_from_slice.new.self (drop n c.args.buf.now) c.self.inside.place n (search rules) same end)
