use Rattle.std.proofs.Common.{◌≡◌, ℕ, ◌+◌, Bool, true, false, cond, List, [], ◌∷◌, ◌++◌, get_or, drop, Option, Some, None, option_map, sym, ap, ◌∙◌, subst, rules, append_assoc}
use Rattle.std.specs.Prelude.{map}
use Rattle.std.specs.Option.{option_map_or}
use Rattle.std.proofs.lemmas.List.{drop_more}
use Rattle.arti_rows.specs.Key.{Key}
use Rattle.arti_rows.specs.Names.{key_fault}
use Rattle.arti_tree.specs.Rows.{Row, row_of}
use Rattle.arti_tree.specs.Slots.{no_key}
use Rattle.arti_tree.specs.Renames.{is_within, moved, moved_whole, key_for}
use Rattle.arti_tree.proofs.Under.{within_is}
use Rattle.arti_tree.proofs.Finding.{found_at}
use Rattle.arti_tree.proofs.tree.Tree.new_keys.Goals as goal

key_seen : (k : Key) (o : Option Row) (r : Row) → Some k ≡ option_map (λ (x : Row). x.key) o → o ≡ Some r → k ≡ r.key
key_seen k o r e is = let same : Some k ≡ Some r.key = e ∙ ap (option_map (λ (x : Row). x.key)) is in cc

none_seen : (o : Option Row) (r : Row) → None ≡ option_map (λ (x : Row). x.key) o → o ≡ Some r → ⊥
none_seen o r e is = let same : None ≡ Some r.key = e ∙ ap (option_map (λ (x : Row). x.key)) is in cc

none_moved : (b : Bool) (m : Key) → b ≡ true → None ≡ cond b (Some m) None → ⊥
none_moved true m is e = cc
none_moved false m is e = cc

some_moved : (b : Bool) (k m : Key) → b ≡ true → Some k ≡ cond b (Some m) None → k ≡ m
some_moved true k m is e = cc
some_moved false k m is e = cc

more_keys : (f : ℕ → Key) (new old : List Key) (rest after : List ℕ) (all : List Key) (id : ℕ) (k : Key) → new ≡ old ++ k ∷ [] → k ≡ f id → rest ≡ id ∷ after → old ++ map f rest ≡ all → new ++ map f after ≡ all
more_keys f new old rest after all id k e is next was =
    ap (λ (l : List Key). l ++ map f after) e ∙ append_assoc old (k ∷ []) (map f after) ∙ ap (λ (x : Key). old ++ x ∷ map f after) is ∙ ap (λ (l : List ℕ). old ++ map f l) (sym next) ∙ was

pub unreachable-requires : goal.unreachable-requires
unreachable-requires c =
    let rows = c.args.self.now in
    let list : List ℕ = c.args.ids.now in
    let m = found_at rows c.args.from.now list c.loop-id.id-index c.rules.ensures.ascend c.requires.within c.loop-id-test.true in
    none_seen (row_of rows (get_or list c.loop-id.id-index 0)) m.row c.in_default.ensures m.of

pub moved_key-requires-clause-repo : goal.moved_key-requires-clause-repo
moved_key-requires-clause-repo c =
    let rows = c.args.self.now in
    let from : Key = c.args.from.now in
    let list : List ℕ = c.args.ids.now in
    let m = found_at rows from list c.loop-id.id-index c.rules.ensures.ascend c.requires.within c.loop-id-test.true in
    let item : c.in-Some.item.now ≡ m.row.key = key_seen c.in-Some.item.now (row_of rows (get_or list c.loop-id.id-index 0)) m.row c.in-Some.ensures m.of in
    ap (λ (k : Key). k.repo) item ∙ (within_is from m.row.key (c.rules.ensures.keys m.row m.live) m.within).repo

pub moved_key-requires-clause-good : goal.moved_key-requires-clause-good
moved_key-requires-clause-good c =
    let rows = c.args.self.now in
    let from : Key = c.args.from.now in
    let to : Key = c.args.to.now in
    let list : List ℕ = c.args.ids.now in
    let m = found_at rows from list c.loop-id.id-index c.rules.ensures.ascend c.requires.within c.loop-id-test.true in
    let item : c.in-Some.item.now ≡ m.row.key = key_seen c.in-Some.item.now (row_of rows (get_or list c.loop-id.id-index 0)) m.row c.in-Some.ensures m.of in
    subst (λ (k : Key). is_within from k ≡ true → key_fault to.repo (moved_whole from to k) ≡ None) (sym item) (λ e. c.requires.keys m.row m.live e)

pub unreachable-requires-in_default-2 : goal.unreachable-requires-in_default-2
unreachable-requires-in_default-2 c =
    let rows = c.args.self.now in
    let from : Key = c.args.from.now in
    let to : Key = c.args.to.now in
    let list : List ℕ = c.args.ids.now in
    let m = found_at rows from list c.loop-id.id-index c.rules.ensures.ascend c.requires.within c.loop-id-test.true in
    let item : c.in-Some.item.now ≡ m.row.key = key_seen c.in-Some.item.now (row_of rows (get_or list c.loop-id.id-index 0)) m.row c.in-Some.ensures m.of in
    let out : None ≡ cond (is_within from c.in-Some.item.now) (Some (moved from to c.in-Some.item.now)) None = search rules in
    none_moved (is_within from c.in-Some.item.now) (moved from to c.in-Some.item.now) (ap (is_within from) item ∙ m.within) out

pub loop-id-preserved : goal.loop-id-preserved
loop-id-preserved c =
    let rows = c.args.self.now in
    let from : Key = c.args.from.now in
    let to : Key = c.args.to.now in
    let list : List ℕ = c.args.ids.now in
    let i = c.loop-id.id-index in
    let id : ℕ = get_or list i 0 in
    let m = found_at rows from list i c.rules.ensures.ascend c.requires.within c.loop-id-test.true in
    let item : c.in-Some.item.now ≡ m.row.key = key_seen c.in-Some.item.now (row_of rows id) m.row c.in-Some.ensures m.of in
    let out : Some c.in-Some-2.key ≡ cond (is_within from c.in-Some.item.now) (Some (moved from to c.in-Some.item.now)) None = search rules in
    let key_is : c.in-Some-2.key ≡ moved from to c.in-Some.item.now = some_moved (is_within from c.in-Some.item.now) c.in-Some-2.key (moved from to c.in-Some.item.now) (ap (is_within from) item ∙ m.within) out in
    let k_is : c.in-Some-2.key ≡ key_for rows from to id = key_is ∙ ap (moved from to) item ∙ sym (ap (λ o. option_map_or (λ (r : Row). moved from to r.key) o no_key) m.of) in
    let next : drop i list ≡ id ∷ drop (i + 1) list = drop_more list i 0 c.loop-id-test.true in
    let keys : c.push.new.self.items ≡ c.loop-id.keys.items ++ c.in-Some-2.key ∷ [] = search rules in
    more_keys (key_for rows from to) c.push.new.self.items c.loop-id.keys.items (drop i list) (drop (i + 1) list) (map (key_for rows from to) list) id c.in-Some-2.key keys k_is next c.loop-id.invariant
