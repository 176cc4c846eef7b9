-- Ids that leave one list for another.
use Rattle.std.specs.Prelude.{ℕ, suc, ◌==◌, nat_lt, Bool, false, if◌then◌else◌, List, [], ◌∷◌, ◌++◌, take, drop}
use Rattle.arti_tree.specs.Ids.{Lacks, with_id, without_id}

-- with ids more, one after the other
abbrev pub with_ids : List ℕ → List ℕ → List ℕ
with_ids [] list = list
with_ids (id ∷ ids) list = with_ids ids (with_id id list)

-- without ids
abbrev pub without_ids : List ℕ → List ℕ → List ℕ
without_ids [] list = list
without_ids (id ∷ ids) list = without_ids ids (without_id id list)

-- none of the ids is in the list, and they differ
abbrev pub AreNew : List ℕ → List ℕ → Type 0
AreNew list [] = Unit {0}
AreNew list (id ∷ ids) = Lacks list id × AreNew (with_id id list) ids

-- a list that ids leave or enter, or both or neither
abbrev pub shifted : Bool → Bool → List ℕ → List ℕ → List ℕ
shifted was will ids list = if was then (if will then list else without_ids ids list) else (if will then with_ids ids list else list)

-- how many at the front are less than an id
abbrev pub lead : ℕ → List ℕ → ℕ
lead id [] = 0
lead id (x ∷ ids) = if nat_lt x id then suc (lead id ids) else 0

-- whether a list begins with an id
abbrev pub begins : ℕ → List ℕ → Bool
begins id [] = false
begins id (x ∷ ids) = x == id

-- the ids of two lists that ascend as one
abbrev pub merge : List ℕ → List ℕ → List ℕ
merge [] more = more
merge (x ∷ ids) more = take (lead x more) more ++ x ∷ merge ids (drop (lead x more) more)

-- the ids that others leave, where both ascend
abbrev pub left_by : List ℕ → List ℕ → List ℕ
left_by others [] = []
left_by others (x ∷ ids) = if begins x (drop (lead x others) others) then left_by (drop (lead x others) others) ids else x ∷ left_by (drop (lead x others) others) ids
