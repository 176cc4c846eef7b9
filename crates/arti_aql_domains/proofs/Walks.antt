-- The relations of a path, followed one after the other.
use Rattle.std.proofs.Common.{◌≡◌, ℕ, List, [], ◌∷◌, ◌++◌, Option, Some, None, refl, sym, ap, ◌∙◌, append-nil}
use Rattle.std.specs.Prelude.{option_map, option_and_then}
use Rattle.arti_query_model.specs.declared.fields.Rel.{Rel}
use Rattle.arti_query_model.specs.Table.{relation_of}
use Rattle.arti_query_model.specs.Paths.{path_text, relations_named, end_of}
use Rattle.arti_aql_domains.specs.Paths.{behind, Leads}
use Rattle.arti_aql_domains.proofs.Cuts.{end_of_more, behind_more}

-- these relations were followed from the root to a domain, and this much of the text is left
pub record Walks (root domain : Rel) (text rest : List ℕ) (path : List Rel) : Type 0 where
  pub relations : relations_named root (path_text text).names ≡ option_map (λ rels. path ++ rels) (relations_named domain (path_text rest).names)
  pub ends : domain ≡ end_of root path
  pub last : (path_text rest).last ≡ (path_text text).last

unmoved : {A : Type 0} (rest : Option (List A)) → option_map (λ xs. [] ++ xs) rest ≡ rest
unmoved None = refl
unmoved (Some xs) = refl

pub walks_first : (root : Rel) (text : List ℕ) → Walks root root text text []
walks_first root text = record { relations = sym (unmoved (relations_named root (path_text text).names)); ends = refl; last = refl }

-- what a relation and the names behind it give
abbrev follow : List Rel → List (List ℕ) → Option Rel → Option (List Rel)
follow path names o = option_map (λ rels. path ++ rels) (option_and_then (λ r. option_map (λ rels. r ∷ rels) (relations_named r names)) o)

pub walks_on : (root domain rel : Rel) (text rest name more : List ℕ) (path : List Rel)
    → Walks root domain text rest path → path_text rest ≡ behind name (path_text more) → relation_of domain name ≡ Some rel → Walks root rel text more (path ++ rel ∷ [])
walks_on root domain rel text rest name more path w parts there = record {
  relations = w.relations ∙ ap (λ p. option_map (λ rels. path ++ rels) (relations_named domain p.names)) parts
      ∙ ap (follow path (path_text more).names) there ∙ behind_more path rel (relations_named rel (path_text more).names);
  ends = sym (end_of_more root path rel);
  last = sym (ap (λ p. p.last) parts) ∙ w.last;
}

pub walks_nowhere : (root domain : Rel) (text rest name more : List ℕ) (path : List Rel)
    → Walks root domain text rest path → path_text rest ≡ behind name (path_text more) → relation_of domain name ≡ None → None ≡ relations_named root (path_text text).names
walks_nowhere root domain text rest name more path w parts there =
    sym (w.relations ∙ ap (λ p. option_map (λ rels. path ++ rels) (relations_named domain p.names)) parts ∙ ap (follow path (path_text more).names) there)

pub walks_all : (root domain : Rel) (text rest : List ℕ) (path : List Rel)
    → Walks root domain text rest path → path_text rest ≡ record { names = []; last = rest } → Some path ≡ relations_named root (path_text text).names
walks_all root domain text rest path w whole =
    sym (w.relations ∙ ap (λ p. option_map (λ rels. path ++ rels) (relations_named domain p.names)) whole ∙ ap Some (append-nil path))

pub walks_lead : (root domain : Rel) (text rest : List ℕ) (path : List Rel)
    → Walks root domain text rest path → path_text rest ≡ record { names = []; last = rest } → Leads root text path domain rest
walks_lead root domain text rest path w whole = record { ends = w.ends; last_part = sym (ap (λ p. p.last) whole) ∙ w.last }
