use Rattle.std.proofs.Common.{◌≡◌, ◌⊎◌, List, ℕ, ap, sym, subst, ◌∙◌}
use Rattle.std.specs.Prelude.{Some}
use Rattle.arti_ground.specs.State.{AfterSync}
use Rattle.arti_model.specs.Stock.{Stock}
use Rattle.arti_main.specs.declared.words.Command.{Command}
use Rattle.arti_main.specs.declared.top.Status.TheVariants as status
use Rattle.arti_main.specs.Answered.{status_of, HasStock, ToldFor, Replays, AtInputEnd, CutSo, AtAnyMoment}
use Rattle.arti_main.proofs.Completes.{completes, refuses, starts_same}
use Rattle.arti_main.proofs.top.run.Goals as goal

pub returns-in-Some-clause-replies : goal.returns-in-Some-clause-replies
returns-in-Some-clause-replies g c = λ start stock is gt st has.
    let input : List ℕ = g.S.Source.left c.args.source.now in
    let new = g.G.Ground.state c.replay.new.ground in
    let told : List ℕ = (g.G.Ground.state c.args.ground.now).told 0 in
    let same = starts_same c.start_of_replay-start.result start (ap (λ (x : Command). Some x) (sym c.start_of_replay-start.ensures) ∙ sym c.in-Some.is ∙ c.command_of.ensures ∙ is) in
    subst (λ (n : ℕ). AtInputEnd c.replay.result (Replays c.args.limits.now n stock input told (new.told 0) new.files)) same (c.replay.ensures.replies gt st stock has)

pub returns-in-Some-clause-cut : goal.returns-in-Some-clause-cut
returns-in-Some-clause-cut g c = λ start stock is gt st has.
    let input : List ℕ = g.S.Source.left c.args.source.now in
    let told : List ℕ = (g.G.Ground.state c.args.ground.now).told 0 in
    let told' : List ℕ = (g.G.Ground.state c.replay.new.ground).told 0 in
    let same = starts_same c.start_of_replay-start.result start (ap (λ (x : Command). Some x) (sym c.start_of_replay-start.ensures) ∙ sym c.in-Some.is ∙ c.command_of.ensures ∙ is) in
    subst (λ (n : ℕ). CutSo c.replay.result c.args.limits.now n stock input told told') same (c.replay.ensures.cut gt st stock has)

pub returns-in-Some-clause-crash : goal.returns-in-Some-clause-crash
returns-in-Some-clause-crash g c = λ start is gt st.
    let old = g.G.Ground.state c.args.ground.now in
    let same = starts_same c.start_of_replay-start.result start (ap (λ (x : Command). Some x) (sym c.start_of_replay-start.ensures) ∙ sym c.in-Some.is ∙ c.command_of.ensures ∙ is) in
    subst (λ (n : ℕ). AfterSync old (g.G.Ground.state c.replay.new.ground) (AtAnyMoment c.args.limits.now n old.files (g.S.Source.left c.args.source.now) old.told)) same (c.replay.ensures.crash gt st)

pub returns-in-Some-clause-complete : goal.returns-in-Some-clause-complete
returns-in-Some-clause-complete g c = λ start stock requests ending is gt st has reads no_disk no_tell no_source.
    let input : List ℕ = g.S.Source.left c.args.source.now in
    let new = g.G.Ground.state c.replay.new.ground in
    let told : List ℕ = (g.G.Ground.state c.args.ground.now).told 0 in
    let same = starts_same c.start_of_replay-start.result start (ap (λ (x : Command). Some x) (sym c.start_of_replay-start.ensures) ∙ sym c.in-Some.is ∙ c.command_of.ensures ∙ is) in
    subst (λ (n : ℕ). (c.replay.result ≡ status.Memory) ⊎ ((c.replay.result ≡ status_of ending) × ToldFor c.args.limits.now n stock requests ending told (new.told 0) new.files)) same
    (completes c.bytes_are_read_in_one_way.ensures c.args.limits.now c.start_of_replay-start.result stock input told (new.told 0) new.files requests ending reads c.replay.result c.replay.ensures.command
    (λ none. c.replay.ensures.not_a_store gt none stock has) (λ fault. no_disk (c.replay.ensures.disk.rose fault)) (λ fault. no_tell (c.replay.ensures.tell.rose fault))
    (λ fault. no_source (c.replay.ensures.source.rose fault)) (c.replay.ensures.replies gt st stock has))

pub returns-in-Some-clause-refused : goal.returns-in-Some-clause-refused
returns-in-Some-clause-refused g c = λ start is gt none no_disk.
    refuses c.replay.result ((s : Stock) × HasStock c.args.limits.now (g.G.Ground.state c.args.ground.now).files s) (λ has. none has.0 has.1) c.replay.ensures.command
    (λ fault. no_disk (c.replay.ensures.disk.rose fault)) (λ store disk memory. c.replay.ensures.a_store gt store disk memory)
