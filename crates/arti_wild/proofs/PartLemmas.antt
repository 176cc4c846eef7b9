-- Parts, read one by one.
use Rattle.std.proofs.Common.{◌≡◌, ℕ, zero, suc, ◌-◌, ◌<◌, ◌≤◌, Bool, true, false, ◌&&◌, List, [], ◌∷◌, ◌++◌, length, get_or, drop, set, Option, Some, None, refl, ap, ◌∙◌, arith, drop-cons, append-nil}
use Rattle.std.specs.Prelude.{option_map, option_and_then, ◌==◌, slice_set}
use Rattle.std.specs.Str.{chars}
use Rattle.std.proofs.Math.Seq.{drop-length}
use Rattle.arti_wild.specs.declared.part.Part.{Part}
use Rattle.arti_wild.specs.declared.part.Part.TheVariants.{Char, LastSlash}
use Rattle.arti_wild.specs.Parts.{part_of, ended, parts_of, is_parenthesis, is_slash, mark, with_last_slash, marked_for, pattern_of}

bind_map : {A B : Type 0} (f : A → B) (o : Option A) → option_and_then (λ m. Some (f m)) o ≡ option_map f o
bind_map f None = refl
bind_map f (Some x) = refl

pub escape : (inside : Bool) (c d : ℕ) (rest more : List ℕ) → rest ≡ d ∷ more → ((c == 92) && is_parenthesis d) ≡ true → parts_of inside (c ∷ rest) ≡ option_map (λ ps. Char d ∷ ps) (parts_of inside more)
unfolding parts_of
escape inside c d rest more e t = rw (e, t) (bind_map (λ ps. Char d ∷ ps) (parts_of inside more))

abbrev NotEscaped : ℕ → List ℕ → Type 0
NotEscaped c rest = (d : ℕ) (more : List ℕ) → rest ≡ d ∷ more → ((c == 92) && is_parenthesis d) ≡ false

pub no_part : (inside : Bool) (c : ℕ) (rest : List ℕ) → NotEscaped c rest → part_of inside c ≡ None → parts_of inside (c ∷ rest) ≡ None
unfolding parts_of
no_part inside c [] plain e = ap (λ (o : Option (Part × Bool)). option_and_then (λ part. option_and_then (λ more. Some (part.0 ∷ more)) (ended part.1)) o) e
no_part inside c (d ∷ rest) plain e = rw (plain d rest refl) (ap (λ (o : Option (Part × Bool)). option_and_then (λ part. option_and_then (λ more. Some (part.0 ∷ more)) (parts_of part.1 (d ∷ rest))) o) e)

pub some_part : (inside within : Bool) (c : ℕ) (part : Part) (rest : List ℕ) → NotEscaped c rest → part_of inside c ≡ Some (part, within) → parts_of inside (c ∷ rest) ≡ option_map (λ more. part ∷ more) (parts_of within rest)
unfolding parts_of
some_part inside within c part [] plain e = ap (λ (o : Option (Part × Bool)). option_and_then (λ p. option_and_then (λ more. Some (p.0 ∷ more)) (ended p.1)) o) e ∙ bind_map (λ more. part ∷ more) (ended within)
some_part inside within c part (d ∷ rest) plain e =
    rw (plain d rest refl) (ap (λ (o : Option (Part × Bool)). option_and_then (λ p. option_and_then (λ more. Some (p.0 ∷ more)) (parts_of p.1 (d ∷ rest))) o) e ∙ bind_map (λ more. part ∷ more) (parts_of within (d ∷ rest)))

pub parts_end : (inside : Bool) (text : List ℕ) → text ≡ [] → parts_of inside text ≡ ended inside
unfolding parts_of
parts_end inside text e = rw e refl

-- what the reading keeps true
pub whole_open : (read : Option (List Part)) (parts : List Part) (inside : Bool) (text : List ℕ) → read ≡ option_map (λ more. parts ++ more) (parts_of inside text) → text ≡ [] → inside ≡ true → read ≡ None
whole_open read parts inside text e end t = e ∙ ap (option_map (λ more. parts ++ more)) (parts_end inside text end ∙ ap ended t)

pub whole_read : (read : Option (List Part)) (parts : List Part) (inside : Bool) (text : List ℕ) → read ≡ option_map (λ more. parts ++ more) (parts_of inside text) → text ≡ [] → inside ≡ false → read ≡ Some parts
whole_read read parts inside text e end f = e ∙ ap (option_map (λ more. parts ++ more)) (parts_end inside text end ∙ ap ended f) ∙ ap Some (append-nil parts)

-- the last slash

pub none_at_end : (parts : List Part) → with_last_slash (drop (length parts) parts) ≡ None
unfolding with_last_slash
none_at_end parts = rw (drop-length parts) refl

mark_none : (part : Part) (more : List Part) → with_last_slash more ≡ None → is_slash part ≡ false → with_last_slash (part ∷ more) ≡ None
unfolding with_last_slash
mark_none part more e f = rw (e, f) refl

pub none_before : (parts : List Part) (i : ℕ) (d : Part) → 0 < i → i ≤ length parts → with_last_slash (drop i parts) ≡ None → is_slash (get_or parts (i - 1) d) ≡ false → with_last_slash (drop (i - 1) parts) ≡ None
none_before parts i d some within none plain =
    let next : suc (i - 1) ≡ i = omega arith in
    let here : drop (i - 1) parts ≡ get_or parts (i - 1) d ∷ drop i parts = drop-cons parts (i - 1) d (omega arith) ∙ ap (λ n. get_or parts (i - 1) d ∷ drop n parts) next in
    rw here (mark_none (get_or parts (i - 1) d) (drop i parts) none plain)

mark_here : (parts : List Part) (k : ℕ) (d : Part) → k < length parts → with_last_slash (drop (suc k) parts) ≡ None → is_slash (get_or parts k d) ≡ true → with_last_slash parts ≡ Some (set parts k LastSlash)
unfolding with_last_slash
mark_here [] k d within none slash = absurd (omega arith)
mark_here (p ∷ parts) zero d within none slash = rw (none, slash) refl
mark_here (p ∷ parts) (suc k) d within none slash = ap (mark p parts) (mark_here parts k d (omega arith) none slash)

pub marked_here : (parts : List Part) (i : ℕ) (d : Part) → 0 < i → i ≤ length parts → with_last_slash (drop i parts) ≡ None → is_slash (get_or parts (i - 1) d) ≡ true → with_last_slash parts ≡ Some (slice_set parts (i - 1) LastSlash)
marked_here parts i d some within none slash =
    let next : suc (i - 1) ≡ i = omega arith in
    mark_here parts (i - 1) d (omega arith) (rw next none) slash

pub all_none : (parts : List Part) (i : ℕ) → i ≡ 0 → with_last_slash (drop i parts) ≡ None → with_last_slash parts ≡ None
all_none parts i e h = rw e at h

-- the whole pattern

pub pattern_none : (whole : Bool) (text : List ℕ) → parts_of false (chars text) ≡ None → pattern_of whole text ≡ None
unfolding pattern_of
pattern_none whole text e = rw e refl

pub pattern_some : (whole : Bool) (text : List ℕ) (parts : List Part) → parts_of false (chars text) ≡ Some parts → pattern_of whole text ≡ marked_for whole parts
unfolding pattern_of
pattern_some whole text parts e = rw e refl
