use Rattle.std.proofs.Common.{◌≡◌, ◌+◌, ◌<◌, Bool, true, false, List, [], ◌∷◌, ◌++◌, length, Some, sym, ap, subst, ◌∙◌, rules}
use Rattle.std.specs.Str.{bytes_eq}
use Rattle.arti_repos.specs.declared.frame.Frame.{Frame}
use Rattle.arti_repos.specs.Frames.{pending, path_of}
use Rattle.arti_repos.specs.Met.{owed}
use Rattle.arti_repos.proofs.Searching.{Searching, begun, arrived, passed, entered, entered_less}
use Rattle.arti_repos.proofs.chain.chain_back.Goals as goal

pub members-init : goal.members-init
members-init c =
    let pushed : c.push.new.self.items ≡ c.new-frames.result.items ++ c.frame_of.result ∷ [] = search rules in
    let items : c.push.new.self.items ≡ c.frame_of.result ∷ [] = pushed ∙ ap (λ (l : List Frame). l ++ c.frame_of.result ∷ []) c.new-frames.ensures.items in
    let long : length c.in_ok-met.met.items ≡ length c.args.definitions.now = search rules in
    subst (λ (l : List Frame). Searching c.args.definitions.now c.args.def.now l c.in_ok-met.met.items) (sym items)
    (begun c.args.definitions.now c.args.def.now c.frame_of.result c.in_ok-met.met.items c.frame_of.ensures.key c.frame_of.ensures.rest long c.in_ok-met.ensures.none)

pub returns-then-eq : goal.returns-then-eq
returns-then-eq c =
    let here : bytes_eq c.in-Some.member.now c.args.def.now.key ≡ true = search rules in
    let keys : c.in_ok-keys_through.field-0 ≡ path_of c.next_member.new.frames.items ++ c.in-Some.member.now ∷ [] =
    c.in_ok-keys_through.ensures ∙ ap (λ (l : List Frame). path_of l ++ c.in-Some.member.now ∷ []) c.deref.ensures.value in
    ap Some keys
    ∙ arrived c.args.definitions.now c.args.def.now c.requires.acyclic.0 c.requires.acyclic.1 c.members.frames.items c.next_member.new.frames.items c.members.met.items c.in-Some.member.now c.members.invariant c.in-Some.ensures here

pub members-smaller-in_ok-push-2 : goal.members-smaller-in_ok-push-2
members-smaller-in_ok-push-2 c =
    let f = c.frame_of-in-Some-meet.result in
    let pushed : c.push-in-Some-meet.new.self.items ≡ c.next_member.new.frames.items ++ f ∷ [] = search rules in
    subst (λ (l : List Frame). owed c.args.definitions.now c.meet.new.met.items + length (pending l) < owed c.args.definitions.now c.members.met.items + length (pending c.members.frames.items)) (sym pushed)
    (entered_less c.args.definitions.now c.args.def.now c.members.frames.items c.next_member.new.frames.items c.members.met.items c.meet.new.met.items c.in-Some.member.now c.in-Some-meet.found.now f c.in-Some.ensures c.in-Some-meet.ensures.meets c.frame_of-in-Some-meet.ensures.rest)

pub members-preserved-in_ok-push-2 : goal.members-preserved-in_ok-push-2
members-preserved-in_ok-push-2 c =
    let f = c.frame_of-in-Some-meet.result in
    let pushed : c.push-in-Some-meet.new.self.items ≡ c.next_member.new.frames.items ++ f ∷ [] = search rules in
    let other : bytes_eq c.in-Some.member.now c.args.def.now.key ≡ false = search rules in
    subst (λ (l : List Frame). Searching c.args.definitions.now c.args.def.now l c.meet.new.met.items) (sym pushed)
    (entered c.args.definitions.now c.args.def.now c.requires.acyclic.0 c.requires.acyclic.1 c.members.frames.items c.next_member.new.frames.items c.members.met.items c.meet.new.met.items c.in-Some.member.now c.in-Some-meet.found.now f
    c.members.invariant c.in-Some.ensures other c.in-Some-meet.ensures.meets c.frame_of-in-Some-meet.ensures.key c.frame_of-in-Some-meet.ensures.rest c.in-Some-meet.ensures.count)

pub members-preserved : goal.members-preserved
members-preserved c =
    let other : bytes_eq c.in-Some.member.now c.args.def.now.key ≡ false = search rules in
    subst (λ (l : List Bool). Searching c.args.definitions.now c.args.def.now c.next_member.new.frames.items l) (sym c.in_default-meet.ensures.meets.1)
    (passed c.args.definitions.now c.args.def.now c.requires.acyclic.0 c.requires.acyclic.1 c.members.frames.items c.next_member.new.frames.items c.members.met.items c.in-Some.member.now
    c.members.invariant c.in-Some.ensures other c.in_default-meet.ensures.meets.0)
