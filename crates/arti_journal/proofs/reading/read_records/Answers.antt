use Rattle.std.proofs.Common.{rules, ◌≡◌, ◌++◌, ◌∷◌, [], ◌+◌, ℕ, List, length, drop, subst, sym, ap, ◌∙◌, arith}
use Rattle.std.proofs.lemmas.Result.{err_from_is_err_and}
use Rattle.arti_ground.specs.State.{Bytes}
use Rattle.arti_ground.specs.Moments.{reads_then}
use Rattle.arti_journal.specs.Journal.{bodies_of}
use Rattle.arti_journal.specs.Parts.{Begins, Follow, Shows}
use Rattle.arti_journal.proofs.Progress.{IsRead, one_read, behind_header}
use Rattle.arti_journal.proofs.reading.read_records.Goals as goal

pub returns-in_err-body-clause-none : goal.returns-in_err-body-clause-none
returns-in_err-body-clause-none g c = λ tells is bodies stands.
    let S = g.G.Ground.state in
    let p = err_from_is_err_and c.from_residual.result c.from_residual.ensures.1 in
    let same : (S c.records.outside).files c.records.window.file ≡ (S c.args.outside.now).files c.args.window.now.file =
    ap (λ (f : ℕ). (S c.records.outside).files f) c.records.invariant.file ∙ ap (λ (b : Bytes). b c.args.window.now.file) (c.records.invariant.reads tells).disk.files in
    let rest = (c.records.invariant.read tells).only bodies (behind_header bodies _ stands).1 in
    c.in_err-body.ensures.none tells (cc) rest.0 (subst (λ (l : List ℕ). Follow rest.0 (drop c.records.place l)) (sym same) rest.2)

pub records-preserved : goal.records-preserved
records-preserved g c =
    let S = g.G.Ground.state in
    let bytes = (S c.args.outside.now).files c.args.window.now.file in
    let body = c.in-Some.body.items in
    let same : g.G.Ground.tells → (S c.records.outside).files c.records.window.file ≡ bytes = λ tells.
    ap (λ (f : ℕ). (S c.records.outside).files f) c.records.invariant.file ∙ ap (λ (b : Bytes). b c.args.window.now.file) (c.records.invariant.reads tells).disk.files in
    let at : c.records.place + (5 + c.len.result) ≡ c.records.place + 5 + length body = search rules in
    record {
      some = omega arith;
      within = search rules;
      file = c.next_body.ensures.file ∙ c.records.invariant.file;
      shows = λ tells. subst (λ (l : List ℕ). Shows c.next_body.new.window l) (same tells) (c.next_body.ensures.shows tells);
      reads = λ tells. reads_then (S c.args.outside.now) (S c.records.outside) (S c.next_body.new.outside) (c.records.invariant.reads tells) (c.next_body.ensures.reads tells);
      disk_faults = search rules;
      tell_faults = c.next_body.ensures.tell_faults ∙ c.records.invariant.tell_faults;
      read = λ tells.
          let begins : Begins body (drop c.records.place bytes) (drop (c.records.place + 5 + length body) bytes) = subst (λ (l : List ℕ). Begins body (drop c.records.place l) (drop (c.records.place + 5 + length body) l)) (same tells) (search rules) in
          let more : bodies_of c.keep.new.bodies.items ≡ bodies_of c.records.bodies.items ++ body ∷ [] = search rules in
          subst (λ (k : ℕ). IsRead bytes (bodies_of c.keep.new.bodies.items) k) (sym at)
          (subst (λ (l : List (List ℕ)). IsRead bytes l (c.records.place + 5 + length body)) (sym more) (one_read bytes (bodies_of c.records.bodies.items) body c.records.place (c.records.invariant.read tells) begins));
    }
