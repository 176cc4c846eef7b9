use Rattle.std.proofs.Common.{rules, ◌≡◌, ◌+◌, ◌-◌, ◌≤◌, ◌++◌, ℕ, length, take, drop, subst, ◌∙◌, arith, length-append}
use Rattle.std.proofs.lemmas.List.{length-take-le}
use borrow.Rule.Slice.PartMut.{post_of}
use Rattle.arti_ground.specs.State.{Bytes}
use Rattle.arti_ground.specs.Moments.{reads_then}
use Rattle.arti_journal.specs.Parts.{Shows, IsPiece}
use Rattle.arti_journal.proofs.Pieces.{more_read_in}
use Rattle.arti_journal.proofs.window.Window.read.Goals as goal

pub pieces-preserved : goal.pieces-preserved
pieces-preserved g c =
    let S = g.G.Ground.state in
    let out = c.pieces.out in
    let done = c.pieces.done in
    let new = c.read_piece.new.out in
    let post = post_of done (length out - done) out in
    let long : c.in_ok-n.n ≤ length new = search rules in
    let size : length (take done out) ≡ done = length-take-le done out c.pieces.invariant.within in
    let bytes = (S c.args.outside.now).files c.args.self.now.file in
    let piece : g.G.Ground.tells → IsPiece bytes (c.args.at + done) (take (length out - done) (drop done out)) new c.in_ok-n.n = λ tells.
    subst (λ (b : Bytes). IsPiece (b c.args.self.now.file) (c.args.at + done) (take (length out - done) (drop done out)) new c.in_ok-n.n) (c.pieces.invariant.reads tells).disk.files
    (subst (λ (f : ℕ). IsPiece ((S c.pieces.outside).files f) (c.args.at + done) (take (length out - done) (drop done out)) new c.in_ok-n.n) c.pieces.invariant.file (c.in_ok-n.ensures.taken tells)) in
    record {
      within = omega (arith, length-append (take done out) (new ++ post), length-append new post, size, long);
      file = c.read_piece.ensures.file ∙ c.pieces.invariant.file;
      shows = λ tells.
          subst (λ (b : Bytes). Shows c.read_piece.new.self (b c.args.self.now.file)) (c.pieces.invariant.reads tells).disk.files
          (subst (λ (f : ℕ). Shows c.read_piece.new.self ((S c.pieces.outside).files f)) c.pieces.invariant.file (c.read_piece.ensures.shows tells));
      reads = λ tells. reads_then (S c.args.outside.now) (S c.pieces.outside) (S c.read_piece.new.outside) (c.pieces.invariant.reads tells) (c.read_piece.ensures.reads tells);
      disk_faults = search rules;
      tell_faults = c.read_piece.ensures.tell_faults ∙ c.pieces.invariant.tell_faults;
      inside = λ tells. omega (arith, (piece tells).within, c.pieces.invariant.inside tells);
      front = λ tells. more_read_in bytes (take (length out - done) (drop done out)) new (take done out) post c.args.at done c.in_ok-n.n size (c.pieces.invariant.front tells) long (piece tells);
    }
