-- Lists of lists, as one list.
use Rattle.std.proofs.Common.{◌≡◌, ℕ, zero, suc, ◌+◌, ◌-◌, ◌*◌, ◌<◌, ◌≤◌, List, [], ◌∷◌, ◌++◌, length, get_or, set, take, drop, Vec, Global, refl, sym, ap, ◌∙◌, zero-add, arith, add-one, subst, ◌⊎◌, ⊎_elim, inl, inr}
use Rattle.std.specs.List.{All, concat, insert, remove}
use Rattle.std.proofs.lemmas.List.{length-append, append_assoc, take-append-drop, length-take-le, length-drop, get_or_append_left, get_or-append-add, map-set, get_or-map, take_all, drop_more, length-map}
use Rattle.std.proofs.lemmas.Bool.{cases_lt}
use Rattle.std.proofs.lemmas.List.Edits.{length-insert, insert-append_left, insert-append_right, remove-append_left, remove-append_right}
use Rattle.std.proofs.lemmas.List.Elements.{All-append, All-take, All-drop, All-cons}
use Rattle.std.proofs.Math.Nat.{le-max_left, le-max_right, max-le}
use Rattle.arti_tree.specs.Pieces.{lists, offset, over, room_for, halved, joined, with_first, IsWide, HasStarts}

-- ---- offset

pub offset-suc : (ls : List (List ℕ)) (i : ℕ) → i < length ls → offset ls (suc i) ≡ offset ls i + length (get_or ls i [])
offset-suc [] i below = absurd (omega arith)
offset-suc (l ∷ ls) zero below = omega (arith, length-append l [])
offset-suc (l ∷ ls) (suc i) below =
    let more = offset-suc ls i (omega arith) in
    omega (arith, more, length-append l (concat (take (suc i) ls)), length-append l (concat (take i ls)))

pub offset-le : (ls : List (List ℕ)) (i : ℕ) → offset ls i ≤ length (concat ls)
offset-le [] zero = omega arith
offset-le [] (suc i) = omega arith
offset-le (l ∷ ls) zero = omega arith
offset-le (l ∷ ls) (suc i) =
    let less = offset-le ls i in
    omega (arith, less, length-append l (concat (take i ls)), length-append l (concat ls))

pub offset-all : (ls : List (List ℕ)) (i : ℕ) → i ≡ length ls → offset ls i ≡ length (concat ls)
offset-all ls i e = ap (λ (r : List (List ℕ)). length (concat r)) (take_all i ls (omega arith))

-- ---- concat

pub get_or-concat : (ls : List (List ℕ)) (i k : ℕ) → i < length ls → k < length (get_or ls i []) → get_or (concat ls) (offset ls i + k) 0 ≡ get_or (get_or ls i []) k 0
get_or-concat [] i k below within = absurd (omega arith)
get_or-concat (l ∷ ls) zero k below within = ap (λ n. get_or (l ++ concat ls) n 0) (zero-add k) ∙ get_or_append_left l (concat ls) 0 k within
get_or-concat (l ∷ ls) (suc i) k below within =
    let place : length (l ++ concat (take i ls)) + k ≡ length l + (offset ls i + k) = omega (arith, length-append l (concat (take i ls))) in
    ap (λ n. get_or (l ++ concat ls) n 0) place ∙ get_or-append-add l (concat ls) (offset ls i + k) 0 ∙ get_or-concat ls i k (omega arith) within

pub concat-insert : (ls : List (List ℕ)) (i k x : ℕ) → i < length ls → k ≤ length (get_or ls i []) → concat (set ls i (insert (get_or ls i []) k x)) ≡ insert (concat ls) (offset ls i + k) x
concat-insert [] i k x below within = absurd (omega arith)
concat-insert (l ∷ ls) zero k x below within = sym (ap (λ n. insert (l ++ concat ls) n x) (zero-add k) ∙ insert-append_left l (concat ls) k x within)
concat-insert (l ∷ ls) (suc i) k x below within =
    let m : ℕ = length (l ++ concat (take i ls)) + k in
    let place : offset ls i + k ≡ m - length l = omega (arith, length-append l (concat (take i ls))) in
    ap (λ (r : List ℕ). l ++ r) (concat-insert ls i k x (omega arith) within)
    ∙ ap (λ n. l ++ insert (concat ls) n x) place
    ∙ sym (insert-append_right l (concat ls) (length l) m x refl (omega (arith, length-append l (concat (take i ls)))))

pub concat-remove : (ls : List (List ℕ)) (i k : ℕ) → i < length ls → k < length (get_or ls i []) → concat (set ls i (remove (get_or ls i []) k)) ≡ remove (concat ls) (offset ls i + k)
concat-remove [] i k below within = absurd (omega arith)
concat-remove (l ∷ ls) zero k below within = sym (ap (λ n. remove (l ++ concat ls) n) (zero-add k) ∙ remove-append_left l (concat ls) k within)
concat-remove (l ∷ ls) (suc i) k below within =
    let m : ℕ = length (l ++ concat (take i ls)) + k in
    let place : offset ls i + k ≡ m - length l = omega (arith, length-append l (concat (take i ls))) in
    ap (λ (r : List ℕ). l ++ r) (concat-remove ls i k (omega arith) within)
    ∙ ap (λ n. l ++ remove (concat ls) n) place
    ∙ sym (remove-append_right l (concat ls) (length l) m refl (omega (arith, length-append l (concat (take i ls)))))

-- ---- over

pub over-le : (ls : List (List ℕ)) → over ls ≤ length (concat ls)
over-le [] = omega arith
over-le (l ∷ ls) =
    let less = over-le ls in
    omega (arith, less, length-append l (concat ls))

pub over-drop : (ls : List (List ℕ)) (i : ℕ) → i < length ls → over (drop i ls) ≡ (length (get_or ls i []) - 2048) + over (drop (i + 1) ls)
over-drop ls i below = ap over (drop_more ls i [] below)

-- one list may grow by one
pub over-set : (ls : List (List ℕ)) (i : ℕ) (m : List ℕ) → i < length ls → length m ≤ length (get_or ls i []) + 1 → over (set ls i m) ≤ over ls + 1
over-set [] i m below le = absurd (omega arith)
over-set (l ∷ ls) zero m below le = omega arith
over-set (l ∷ ls) (suc i) m below le =
    let more = over-set ls i m (omega arith) le in
    omega (arith, more)

pub over-set_less : (ls : List (List ℕ)) (i : ℕ) (m : List ℕ) → i < length ls → length m ≤ length (get_or ls i []) → over (set ls i m) ≤ over ls
over-set_less [] i m below le = absurd (omega arith)
over-set_less (l ∷ ls) zero m below le = omega arith
over-set_less (l ∷ ls) (suc i) m below le =
    let more = over-set_less ls i m (omega arith) le in
    omega (arith, more)

-- a full list is more than half full
pub over-full : (ls : List (List ℕ)) (i : ℕ) → i < length ls → length (get_or ls i []) ≡ 4096 → 2048 ≤ over ls
over-full [] i below full = absurd (omega arith)
over-full (l ∷ ls) zero below full = omega arith
over-full (l ∷ ls) (suc i) below full =
    let more = over-full ls i (omega arith) full in
    omega (arith, more)

-- ---- halved

pub concat-halved : (ls : List (List ℕ)) (i : ℕ) → concat (halved ls i) ≡ concat ls
concat-halved [] i = refl
concat-halved (l ∷ ls) zero = sym (append_assoc (take 2048 l) (drop 2048 l) (concat ls)) ∙ ap (λ (r : List ℕ). r ++ concat ls) (take-append-drop 2048 l)
concat-halved (l ∷ ls) (suc i) = ap (λ (r : List ℕ). l ++ r) (concat-halved ls i)

pub over-halved : (ls : List (List ℕ)) (i : ℕ) → i < length ls → length (get_or ls i []) ≡ 4096 → over (halved ls i) + 2048 ≡ over ls
over-halved [] i below full = absurd (omega arith)
over-halved (l ∷ ls) zero below full = omega (arith, length-take-le 2048 l (omega arith), length-drop 2048 l)
over-halved (l ∷ ls) (suc i) below full =
    let less = over-halved ls i (omega arith) full in
    omega (arith, less)

pub length-halved : (ls : List (List ℕ)) (i : ℕ) → i < length ls → length (halved ls i) ≡ length ls + 1
length-halved [] i below = absurd (omega arith)
length-halved (l ∷ ls) zero below = omega arith
length-halved (l ∷ ls) (suc i) below =
    let more = length-halved ls i (omega arith) in
    omega (arith, more)

pub offset-halved : (ls : List (List ℕ)) (i : ℕ) → i < length ls → offset (halved ls i) i ≡ offset ls i
offset-halved [] i below = absurd (omega arith)
offset-halved (l ∷ ls) zero below = refl
offset-halved (l ∷ ls) (suc i) below =
    let same = offset-halved ls i (omega arith) in
    omega (arith, same, length-append l (concat (take i (halved ls i))), length-append l (concat (take i ls)))

pub halved-front : (ls : List (List ℕ)) (i : ℕ) → i < length ls → length (get_or ls i []) ≡ 4096 → length (get_or (halved ls i) i []) ≡ 2048
halved-front [] i below full = absurd (omega arith)
halved-front (l ∷ ls) zero below full = length-take-le 2048 l (omega arith)
halved-front (l ∷ ls) (suc i) below full = halved-front ls i (omega arith) full

pub halved-back : (ls : List (List ℕ)) (i : ℕ) → i < length ls → length (get_or ls i []) ≡ 4096 → length (get_or (halved ls i) (suc i) []) ≡ 2048
halved-back [] i below full = absurd (omega arith)
halved-back (l ∷ ls) zero below full = omega (arith, length-drop 2048 l)
halved-back (l ∷ ls) (suc i) below full = halved-back ls i (omega arith) full

-- ---- joined

concat-with_first : (l : List ℕ) (ls : List (List ℕ)) → concat (with_first l ls) ≡ l ++ concat ls
concat-with_first l [] = refl
concat-with_first l (m ∷ ls) = append_assoc l m (concat ls)

pub concat-joined : (ls : List (List ℕ)) (i : ℕ) → concat (joined ls i) ≡ concat ls
concat-joined [] i = refl
concat-joined (l ∷ ls) zero = concat-with_first l ls
concat-joined (l ∷ ls) (suc i) = ap (λ (r : List ℕ). l ++ r) (concat-joined ls i)

over-with_first : (l : List ℕ) (ls : List (List ℕ)) → length l + length (get_or ls 0 []) ≤ 2048 → over (with_first l ls) ≡ over (l ∷ ls)
over-with_first l [] le = omega arith
over-with_first l (m ∷ ls) le = omega (arith, length-append l m)

pub over-joined : (ls : List (List ℕ)) (i : ℕ) → length (get_or ls i []) + length (get_or ls (suc i) []) ≤ 2048 → over (joined ls i) ≡ over ls
over-joined [] i le = refl
over-joined (l ∷ ls) zero le = over-with_first l ls le
over-joined (l ∷ ls) (suc i) le = ap (λ n. (length l - 2048) + n) (over-joined ls i le)

-- ---- lists of blocks

pub lists-set : (bs : List (Vec ℕ Global)) (i : ℕ) (b : Vec ℕ Global) (l : List ℕ) → b.items ≡ l → lists (set bs i b) ≡ set (lists bs) i l
lists-set bs i b l e = map-set (λ (v : Vec ℕ Global). v.items) bs i b ∙ ap (set (lists bs) i) e

pub lists-at : (bs : List (Vec ℕ Global)) (i : ℕ) (d : Vec ℕ Global) → i < length bs → get_or (lists bs) i [] ≡ (get_or bs i d).items
lists-at bs i d below = get_or-map (λ (v : Vec ℕ Global). v.items) bs i d [] below

pub lists-halved : (bs : List (Vec ℕ Global)) (i : ℕ) (f b : Vec ℕ Global) → i < length bs → f.items ≡ take 2048 (get_or (lists bs) i []) → b.items ≡ drop 2048 (get_or (lists bs) i []) → lists (insert (set bs i f) (suc i) b) ≡ halved (lists bs) i
lists-halved [] i f b below front back = absurd (omega arith)
lists-halved (v ∷ bs) zero f b below front back = ap (λ (r : List ℕ). r ∷ b.items ∷ lists bs) front ∙ ap (λ (r : List ℕ). take 2048 v.items ∷ r ∷ lists bs) back
lists-halved (v ∷ bs) (suc i) f b below front back = ap (λ (r : List (List ℕ)). v.items ∷ r) (lists-halved bs i f b (omega arith) front back)

-- a block that was read
pub block-at : (bs : List (Vec ℕ Global)) (i : ℕ) (b : Vec ℕ Global) → i < length bs → b ≡ get_or bs i b → b.items ≡ get_or (lists bs) i []
block-at bs i b below e = ap (λ (v : Vec ℕ Global). v.items) e ∙ sym (lists-at bs i b below)

pub wide-at : (bs : List (Vec ℕ Global)) (i : ℕ) (b : Vec ℕ Global) → i < length bs → b ≡ get_or bs i b → All IsWide bs → IsWide b
wide-at bs i b below e all = subst IsWide (sym e) (all i b below)

first-joined : (v : Vec ℕ Global) (bs : List (Vec ℕ Global)) → 0 < length bs → set (lists (remove (v ∷ bs) 1)) 0 (v.items ++ get_or (lists bs) 0 []) ≡ with_first v.items (lists bs)
first-joined v [] some = absurd (omega arith)
first-joined v (w ∷ bs) some = refl

pub lists-joined : (bs : List (Vec ℕ Global)) (i : ℕ) → suc i < length bs → set (lists (remove bs (suc i))) i (get_or (lists bs) i [] ++ get_or (lists bs) (suc i) []) ≡ joined (lists bs) i
lists-joined [] i below = absurd (omega arith)
lists-joined (v ∷ bs) zero below = first-joined v bs (omega arith)
lists-joined (v ∷ bs) (suc i) below = ap (λ (r : List (List ℕ)). v.items ∷ r) (lists-joined bs i (omega arith))

pub lists-remove_at : (bs : List (Vec ℕ Global)) (i : ℕ) → i < length bs → get_or (lists (remove bs (suc i))) i [] ≡ get_or (lists bs) i []
lists-remove_at [] i below = absurd (omega arith)
lists-remove_at (v ∷ bs) zero below = refl
lists-remove_at (v ∷ bs) (suc i) below = lists-remove_at bs i (omega arith)

pub lists-merged : (bs removed new : List (Vec ℕ Global)) (i : ℕ) (next : Vec ℕ Global) (more : List ℕ) → i + 1 < length bs → removed ≡ remove bs (i + 1) → next ≡ get_or bs (i + 1) next → more ≡ next.items
    → lists new ≡ set (lists removed) i (get_or (lists removed) i [] ++ more) → lists new ≡ joined (lists bs) i
lists-merged bs removed new i next more below r n m e =
    let s : removed ≡ remove bs (suc i) = r ∙ ap (remove bs) (add-one i) in
    let there : more ≡ get_or (lists bs) (suc i) [] = m ∙ block-at bs (i + 1) next below n ∙ ap (λ k. get_or (lists bs) k []) (add-one i) in
    let first : get_or (lists removed) i [] ≡ get_or (lists bs) i [] = ap (λ (xs : List (Vec ℕ Global)). get_or (lists xs) i []) s ∙ lists-remove_at bs i (omega arith) in
    e ∙ ap (λ (xs : List (Vec ℕ Global)). set (lists xs) i (get_or (lists removed) i [] ++ more)) s
    ∙ ap (λ (l : List ℕ). set (lists (remove bs (suc i))) i (l ++ more)) first
    ∙ ap (λ (l : List ℕ). set (lists (remove bs (suc i))) i (get_or (lists bs) i [] ++ l)) there
    ∙ lists-joined bs i (omega arith)

-- ---- All

pub All-insert : {X : Type 0} (P : X → Type 0) (xs : List X) (i : ℕ) (x : X) → P x → All P xs → All P (insert xs i x)
All-insert P xs i x p all = All-append P (take i xs) (x ∷ drop i xs) (All-take P i xs all) (All-cons P x (drop i xs) p (All-drop P i xs all))

pub All-remove : {X : Type 0} (P : X → Type 0) (xs : List X) (i : ℕ) → All P xs → All P (remove xs i)
All-remove P xs i all = All-append P (take i xs) (drop (suc i) xs) (All-take P i xs all) (All-drop P (suc i) xs all)

-- ---- room_for

-- an id more takes at most one of what there is room for
pub room_for-one : (s o p : ℕ) → o ≤ p + 1 → room_for s p ≤ room_for s o + 1
room_for-one s o p le = max-le (omega (arith, le-max_left s ((2048 * s + 2047) - o))) (omega (arith, le-max_right s ((2048 * s + 2047) - o)))

pub room_for-less : (s o p : ℕ) → o ≤ p → room_for s p ≤ room_for s o
room_for-less s o p le = max-le (le-max_left s ((2048 * s + 2047) - o)) (omega (arith, le-max_right s ((2048 * s + 2047) - o)))

-- a cut takes a block, and leaves as much room for those to come
pub room_for-halved : (s t o p : ℕ) → s ≡ t + 1 → p + 2048 ≡ o → room_for s o ≤ room_for t (p + 1) + 1
room_for-halved s t o p e f = max-le (omega (arith, le-max_left t ((2048 * t + 2047) - (p + 1)))) (omega (arith, le-max_right t ((2048 * t + 2047) - (p + 1))))

-- where a block is full and there is room, one is set aside
pub room_for-some : (s o : ℕ) → 0 < room_for s o → 2048 ≤ o → 0 < s
room_for-some zero o some full = absurd (omega (arith, some, max-le {a = 0} {b = (2048 * 0 + 2047) - o} {k = 0} (omega arith) (omega arith)))
room_for-some (suc s) o some full = omega arith

-- ---- places

-- the end of the block that a search found
reach : (starts : List ℕ) (bs : List (Vec ℕ Global)) (at place : ℕ) → HasStarts starts bs → at < length starts → (at + 1 < length starts → place < get_or starts (at + 1) 0)
    → (place < offset (lists bs) (suc at)) ⊎ (offset (lists bs) (suc at) ≡ length (concat (lists bs)))
reach starts bs at place has below end =
    ⊎_elim (λ (l : at + 1 < length starts). inl (omega (arith, end l, has.each (at + 1) (omega (arith, has.long)), ap (offset (lists bs)) (add-one at))))
    (λ (g : length starts ≤ at + 1). inr (offset-all (lists bs) (suc at) (omega (arith, has.long, length-map bs (λ (v : Vec ℕ Global). v.items)))))
    (cases_lt (at + 1) (length starts))

module _ (starts : List ℕ) (bs : List (Vec ℕ Global)) (at place : ℕ) (has : HasStarts starts bs) (below : at < length starts) (start : get_or starts at 0 ≤ place) where
  pub below-blocks : at < length bs
  below-blocks = omega (arith, has.long)

  pub below-lists : at < length (lists bs)
  below-lists = omega (arith, has.long, length-map bs (λ (v : Vec ℕ Global). v.items))

  pub start-is : get_or starts at 0 ≡ offset (lists bs) at
  start-is = has.each at below-blocks

  pub place-is : offset (lists bs) at + (place - get_or starts at 0) ≡ place
  place-is = omega (arith, start-is, start)

  module _ (end : at + 1 < length starts → place < get_or starts (at + 1) 0) where
    pub end-lt : place < length (concat (lists bs)) → place - get_or starts at 0 < length (get_or (lists bs) at [])
    end-lt within =
        let more = offset-suc (lists bs) at below-lists in
        ⊎_elim (λ (l : place < offset (lists bs) (suc at)). omega (arith, l, more, start-is, start)) (λ (e : offset (lists bs) (suc at) ≡ length (concat (lists bs))). omega (arith, e, more, start-is, start, within)) (reach starts bs at place has below end)

    pub end-le : place ≤ length (concat (lists bs)) → place - get_or starts at 0 ≤ length (get_or (lists bs) at [])
    end-le within =
        let more = offset-suc (lists bs) at below-lists in
        ⊎_elim (λ (l : place < offset (lists bs) (suc at)). omega (arith, l, more, start-is, start)) (λ (e : offset (lists bs) (suc at) ≡ length (concat (lists bs))). omega (arith, e, more, start-is, start, within)) (reach starts bs at place has below end)

-- all ids, by the last block
pub last-is : (starts : List ℕ) (bs : List (Vec ℕ Global)) (i s n : ℕ) (b : Vec ℕ Global) → HasStarts starts bs → i + 1 ≡ length bs → s ≡ get_or starts i 0 → b ≡ get_or bs i b → n ≡ length b.items → s + n ≡ length (concat (lists bs))
last-is starts bs i s n b has last s_is b_is n_is =
    let below : i < length (lists bs) = omega (arith, last, length-map bs (λ (v : Vec ℕ Global). v.items)) in
    omega (arith, s_is, n_is, has.each i (omega arith), ap (λ (l : List ℕ). length l) (block-at bs i b (omega arith) b_is), offset-suc (lists bs) i below, offset-all (lists bs) (suc i) (omega (arith, last, length-map bs (λ (v : Vec ℕ Global). v.items))))

-- an id more, by its place in the whole list
module _ (starts : List ℕ) (bs new : List (Vec ℕ Global)) (at place id : ℕ) (has : HasStarts starts bs) (below : at < length bs) (start : get_or starts at 0 ≤ place)
    (end : place ≤ get_or starts at 0 + length (get_or (lists bs) at []))
    (is : lists new ≡ set (lists bs) at (insert (get_or (lists bs) at []) (place - get_or starts at 0) id)) where
  at_starts : at < length starts
  at_starts = omega (arith, has.long)

  in_lists : at < length (lists bs)
  in_lists = below-lists starts bs at place has at_starts start

  within : place - get_or starts at 0 ≤ length (get_or (lists bs) at [])
  within = omega (arith, start, end)

  pub concat-inserted : concat (lists new) ≡ insert (concat (lists bs)) place id
  concat-inserted =
      ap concat is ∙ concat-insert (lists bs) at (place - get_or starts at 0) id in_lists within
      ∙ ap (λ n. insert (concat (lists bs)) n id) (place-is starts bs at place has at_starts start)

  pub over-inserted : over (lists new) ≤ over (lists bs) + 1
  over-inserted =
      let here : List ℕ = get_or (lists bs) at [] in
      let k : ℕ = place - get_or starts at 0 in
      let longer : length (insert here k id) ≤ length here + 1 = omega (arith, length-insert here k id within) in
      omega (arith, ap over is, over-set (lists bs) at (insert here k id) in_lists longer)

  pub length-inserted : length (concat (lists new)) ≡ length (concat (lists bs)) + 1
  length-inserted =
      let le : place ≤ length (concat (lists bs)) = omega (arith, start-is starts bs at place has at_starts start, end, offset-suc (lists bs) at in_lists, offset-le (lists bs) (suc at)) in
      ap (λ (l : List ℕ). length l) concat-inserted ∙ length-insert (concat (lists bs)) place id le

-- where an id comes once a full block was cut
module _ (starts starts' : List ℕ) (bs bs' : List (Vec ℕ Global)) (at place r : ℕ) (has : HasStarts starts bs) (has' : HasStarts starts' bs') (is : lists bs' ≡ halved (lists bs) at)
    (below : at < length bs) (full : length (get_or (lists bs) at []) ≡ 4096) (start : get_or starts at 0 ≤ place) (end : place ≤ get_or starts at 0 + length (get_or (lists bs) at []))
    (side : ((r ≡ at) × (place < get_or starts' (at + 1) 0)) ⊎ ((r ≡ at + 1) × (get_or starts' (at + 1) 0 ≤ place))) where
  in_old : at < length (lists bs)
  in_old = omega (arith, length-map bs (λ (v : Vec ℕ Global). v.items))

  long' : length bs' ≡ length bs + 1
  long' = omega (arith, length-map bs (λ (v : Vec ℕ Global). v.items), length-map bs' (λ (v : Vec ℕ Global). v.items), ap (λ (ls : List (List ℕ)). length ls) is, length-halved (lists bs) at in_old)

  front : length (get_or (lists bs') at []) ≡ 2048
  front = ap (λ (ls : List (List ℕ)). length (get_or ls at [])) is ∙ halved-front (lists bs) at in_old full

  back : length (get_or (lists bs') (at + 1) []) ≡ 2048
  back = ap (λ (ls : List (List ℕ)). length (get_or ls (at + 1) [])) is ∙ ap (λ n. length (get_or (halved (lists bs) at) n [])) (add-one at) ∙ halved-back (lists bs) at in_old full

  first : get_or starts' at 0 ≡ get_or starts at 0
  first = has'.each at (omega (arith, long')) ∙ ap (λ (ls : List (List ℕ)). offset ls at) is ∙ offset-halved (lists bs) at in_old ∙ sym (has.each at below)

  second : get_or starts' (at + 1) 0 ≡ get_or starts at 0 + 2048
  second =
      let more = offset-suc (lists bs') at (omega (arith, long', length-map bs' (λ (v : Vec ℕ Global). v.items))) in
      omega (arith, has'.each (at + 1) (omega (arith, long')), ap (offset (lists bs')) (add-one at), more, front, first, has'.each at (omega (arith, long')))

  pub side-at : r < length bs'
  side-at = ⊎_elim (λ (l : (r ≡ at) × (place < get_or starts' (at + 1) 0)). omega (arith, l.0, long')) (λ (g : (r ≡ at + 1) × (get_or starts' (at + 1) 0 ≤ place)). omega (arith, g.0, long')) side

  pub side-start : get_or starts' r 0 ≤ place
  side-start =
      ⊎_elim (λ (l : (r ≡ at) × (place < get_or starts' (at + 1) 0)). omega (arith, ap (λ k. get_or starts' k 0) l.0, first, start))
      (λ (g : (r ≡ at + 1) × (get_or starts' (at + 1) 0 ≤ place)). omega (arith, ap (λ k. get_or starts' k 0) g.0, g.1)) side

  pub side-free : length (get_or (lists bs') r []) ≡ 2048
  side-free =
      ⊎_elim (λ (l : (r ≡ at) × (place < get_or starts' (at + 1) 0)). ap (λ k. length (get_or (lists bs') k [])) l.0 ∙ front)
      (λ (g : (r ≡ at + 1) × (get_or starts' (at + 1) 0 ≤ place)). ap (λ k. length (get_or (lists bs') k [])) g.0 ∙ back) side

  pub side-end : place ≤ get_or starts' r 0 + length (get_or (lists bs') r [])
  side-end =
      ⊎_elim (λ (l : (r ≡ at) × (place < get_or starts' (at + 1) 0)). omega (arith, side-free, ap (λ k. get_or starts' k 0) l.0, first, second, l.1))
      (λ (g : (r ≡ at + 1) × (get_or starts' (at + 1) 0 ≤ place)). omega (arith, side-free, ap (λ k. get_or starts' k 0) g.0, second, end, full)) side

-- a block that isn't free is full
pub full-at : (bs : List (Vec ℕ Global)) (i : ℕ) → i < length bs → All IsWide bs → 4096 ≤ length (get_or (lists bs) i []) → length (get_or (lists bs) i []) ≡ 4096
full-at [] i below all more = absurd (omega arith)
full-at (v ∷ bs) i below all more =
    let same = lists-at (v ∷ bs) i v below in
    let few = (all i v below).0 in
    omega (arith, few, more, ap (λ (l : List ℕ). length l) same)
