-- What a frame more leaves, and a member less.
use Rattle.std.proofs.Common.{◌≡◌, ℕ, List, [], ◌∷◌, ◌++◌, refl, sym, ap, ◌∙◌, append_assoc, Option, Some, None}
use Rattle.std.specs.Option.{option_map, option_or}
use Rattle.std.proofs.lemmas.List.{append-nil, map-append}
use Rattle.arti_repos.specs.declared.frame.Frame.{Frame}
use Rattle.arti_repos.specs.Cycles.{first_way}
use Rattle.arti_repos.specs.Frames.{pending, led, path_of, IsDone, Takes}

pub pending_end : (fs : List Frame) (f : Frame) → pending (fs ++ f ∷ []) ≡ f.rest.now ++ pending fs
pending_end [] f = sym (append-nil f.rest.now)
pending_end (g ∷ fs) f = ap (λ (l : List (List ℕ)). l ++ g.rest.now) (pending_end fs f) ∙ append_assoc f.rest.now (pending fs) g.rest.now

abbrev Way : Type 0
Way = Option (List (List ℕ))

or_none : (o : Way) → o ≡ option_or o None
or_none None = refl
or_none (Some x) = refl

led_by : (k : List ℕ) (front : List (List ℕ)) (key : List ℕ) (o below rest : Way)
    → option_map (λ way. k ∷ way) (option_or (option_or (option_map (λ way. front ++ key ∷ way) o) below) rest)
    ≡ option_or (option_map (λ way. k ∷ (front ++ key ∷ way)) o) (option_map (λ way. k ∷ way) (option_or below rest))
led_by k front key None below rest = refl
led_by k front key (Some way) below rest = refl

pub led_end : (way_of : List ℕ → Way) (fs : List Frame) (f : Frame) → led way_of (fs ++ f ∷ []) ≡ option_or (option_map (λ way. path_of fs ++ f.key.now ∷ way) (first_way way_of f.rest.now)) (led way_of fs)
led_end way_of [] f = or_none (option_map (λ way. f.key.now ∷ way) (first_way way_of f.rest.now))
led_end way_of (g ∷ fs) f =
    ap (λ (o : Way). option_map (λ way. g.key.now ∷ way) (option_or o (first_way way_of g.rest.now))) (led_end way_of fs f)
    ∙ led_by g.key.now (path_of fs) f.key.now (first_way way_of f.rest.now) (led way_of fs) (first_way way_of g.rest.now)

-- the same is left
pub record Leaves (old new : List Frame) : Type 0 where
  pub pending : pending old ≡ pending new
  pub led : (way_of : List ℕ → Way) → led way_of old ≡ led way_of new

pub leaves_same : (fs : List Frame) → Leaves fs fs
leaves_same fs = record { pending = refl; led = λ way_of. refl }

-- a frame with no member left goes
pub leaves_less : (old fs : List Frame) (f : Frame) → Leaves old (fs ++ f ∷ []) → f.rest.now ≡ [] → Leaves old fs
leaves_less old fs f l none = record {
  pending = l.pending ∙ pending_end fs f ∙ ap (λ (r : List (List ℕ)). r ++ pending fs) none;
  led = λ way_of. l.led way_of ∙ led_end way_of fs f ∙ ap (λ (r : List (List ℕ)). option_or (option_map (λ way. path_of fs ++ f.key.now ∷ way) (first_way way_of r)) (led way_of fs)) none;
}

pub done_by : (old fs : List Frame) → Leaves old fs → fs ≡ [] → IsDone old
done_by old fs l none = record {
  pending = l.pending ∙ ap pending none;
  led = λ way_of. l.led way_of ∙ ap (led way_of) none;
}

pub takes_by : (old fs new : List Frame) (key : List ℕ) → Leaves old fs → Takes fs key new → Takes old key new
takes_by old fs new key l t = record { pending = l.pending ∙ t.pending; led = λ way_of. l.led way_of ∙ t.led way_of }

way_by : (front : List (List ℕ)) (key : List ℕ) (o more below : Way)
    → option_or (option_map (λ way. front ++ key ∷ way) (option_or o more)) below
    ≡ option_or (option_map (λ way. (front ++ key ∷ []) ++ way) o) (option_or (option_map (λ way. front ++ key ∷ way) more) below)
way_by front key None more below = refl
way_by front key (Some way) more below = ap Some (sym (append_assoc front (key ∷ []) way))

-- the first member of the last frame is taken
pub takes_member : (fs : List Frame) (f g : Frame) (m : List ℕ) (rest : List (List ℕ)) → f.rest.now ≡ m ∷ rest → g.key.now ≡ f.key.now → g.rest.now ≡ rest → Takes (fs ++ f ∷ []) m (fs ++ g ∷ [])
takes_member fs f g m rest is key left = record {
  pending = pending_end fs f ∙ ap (λ (r : List (List ℕ)). r ++ pending fs) (is ∙ ap (λ r. m ∷ r) (sym left)) ∙ ap (λ (r : List (List ℕ)). m ∷ r) (sym (pending_end fs g));
  led = λ way_of.
      led_end way_of fs f
      ∙ ap (λ (r : List (List ℕ)). option_or (option_map (λ way. path_of fs ++ f.key.now ∷ way) (first_way way_of r)) (led way_of fs)) (is ∙ ap (λ r. m ∷ r) (sym left))
      ∙ ap (λ (k : List ℕ). option_or (option_map (λ way. path_of fs ++ k ∷ way) (first_way way_of (m ∷ g.rest.now))) (led way_of fs)) (sym key)
      ∙ way_by (path_of fs) g.key.now (way_of m) (first_way way_of g.rest.now) (led way_of fs)
      ∙ ap (λ (p : List (List ℕ)). option_or (option_map (λ way. p ++ way) (way_of m)) (option_or (option_map (λ way. path_of fs ++ g.key.now ∷ way) (first_way way_of g.rest.now)) (led way_of fs))) (sym (map-append (λ (h : Frame). h.key.now) fs (g ∷ [])))
      ∙ ap (λ (o : Way). option_or (option_map (λ way. path_of (fs ++ g ∷ []) ++ way) (way_of m)) o) (sym (led_end way_of fs g));
}
