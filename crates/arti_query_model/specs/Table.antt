-- The domains with their fields and relations (after the domains of JFrog's Artifactory Query Language), and the operators that fields take.
use Rattle.std.specs.Prelude.{ℕ, Bool, true, false, ◌||◌, if◌then◌else◌, List, [], ◌∷◌, codes, Option, Some, None}
use Rattle.std.specs.Str.{bytes_eq}
use Rattle.arti_aql_parse.specs.declared.query.Op.{Op}
use Rattle.arti_aql_parse.specs.declared.query.Op.TheVariants.{Eq, Ne, Gt, Gte, Lt, Lte, Match, Nmatch, Before, Last}
use Rattle.arti_query_model.specs.declared.fields.Rel.{Rel}
use Rattle.arti_query_model.specs.declared.fields.Rel.TheVariants.{Property, Stat, Artifact, Dependency, Item, Module, Build, Promotion}
use Rattle.arti_query_model.specs.declared.fields.FieldType.{FieldType}
use Rattle.arti_query_model.specs.declared.fields.FieldType.TheVariants.{Texts, Numbers, Dates, Kinds, Lists}
use Rattle.arti_query_model.specs.declared.fields.FieldId.{FieldId}
use Rattle.arti_query_model.specs.declared.fields.FieldId.TheVariants.{ItemRepo, ItemPath, ItemName, ItemType, ItemSize, ItemCreated, ItemCreatedBy, ItemModified, ItemModifiedBy, ItemUpdated, ItemDepth, ItemOriginalMd5, ItemOriginalSha1, ItemActualMd5, ItemActualSha1, ItemSha256, ItemVirtualRepos, PropertyKey, PropertyValue, StatDownloads, StatDownloaded, StatDownloadedBy, ArtifactName, ArtifactType, ArtifactSha1, ArtifactSha256, ArtifactMd5, DependencyName, DependencyType, DependencyScope, DependencySha1, DependencySha256, DependencyMd5, ModuleName, BuildName, BuildNumber, BuildStarted, BuildUrl, BuildCreated, BuildCreatedBy, BuildModified, BuildModifiedBy, PromotionCreated, PromotionCreatedBy, PromotionStatus, PromotionRepo, PromotionComment, PromotionUser}

-- a field of a domain: its name, what values it has, and which one it is
pub record Entry : Type 0 where
  pub name : List ℕ
  pub type : FieldType
  pub field : FieldId

abbrev pub text : List ℕ → FieldId → Entry
text name field = record { name = name; type = Texts; field = field }

abbrev pub number : List ℕ → FieldId → Entry
number name field = record { name = name; type = Numbers; field = field }

abbrev pub date : List ℕ → FieldId → Entry
date name field = record { name = name; type = Dates; field = field }

abbrev pub kind : List ℕ → FieldId → Entry
kind name field = record { name = name; type = Kinds; field = field }

abbrev pub texts : List ℕ → FieldId → Entry
texts name field = record { name = name; type = Lists; field = field }

-- the fields of each domain, in the order in which they are shown
unfoldable pub fields : Rel → List Entry
fields Item =
    text (codes "repo") ItemRepo ∷ text (codes "path") ItemPath ∷ text (codes "name") ItemName ∷ kind (codes "type") ItemType
    ∷ number (codes "size") ItemSize ∷ date (codes "created") ItemCreated ∷ text (codes "created_by") ItemCreatedBy
    ∷ date (codes "modified") ItemModified ∷ text (codes "modified_by") ItemModifiedBy ∷ date (codes "updated") ItemUpdated
    ∷ number (codes "depth") ItemDepth ∷ text (codes "original_md5") ItemOriginalMd5 ∷ text (codes "original_sha1") ItemOriginalSha1
    ∷ text (codes "actual_md5") ItemActualMd5 ∷ text (codes "actual_sha1") ItemActualSha1 ∷ text (codes "sha256") ItemSha256
    ∷ texts (codes "virtual_repos") ItemVirtualRepos ∷ []
fields Property = text (codes "key") PropertyKey ∷ text (codes "value") PropertyValue ∷ []
fields Stat = number (codes "downloads") StatDownloads ∷ date (codes "downloaded") StatDownloaded ∷ text (codes "downloaded_by") StatDownloadedBy ∷ []
fields Artifact =
    text (codes "name") ArtifactName ∷ text (codes "type") ArtifactType ∷ text (codes "sha1") ArtifactSha1
    ∷ text (codes "sha256") ArtifactSha256 ∷ text (codes "md5") ArtifactMd5 ∷ []
fields Dependency =
    text (codes "name") DependencyName ∷ text (codes "type") DependencyType ∷ text (codes "scope") DependencyScope
    ∷ text (codes "sha1") DependencySha1 ∷ text (codes "sha256") DependencySha256 ∷ text (codes "md5") DependencyMd5 ∷ []
fields Module = text (codes "name") ModuleName ∷ []
fields Build =
    text (codes "name") BuildName ∷ text (codes "number") BuildNumber ∷ date (codes "started") BuildStarted ∷ text (codes "url") BuildUrl
    ∷ date (codes "created") BuildCreated ∷ text (codes "created_by") BuildCreatedBy
    ∷ date (codes "modified") BuildModified ∷ text (codes "modified_by") BuildModifiedBy ∷ []
fields Promotion =
    date (codes "created") PromotionCreated ∷ text (codes "created_by") PromotionCreatedBy ∷ text (codes "status") PromotionStatus
    ∷ text (codes "repo") PromotionRepo ∷ text (codes "comment") PromotionComment ∷ text (codes "user") PromotionUser ∷ []

-- the relations of each domain, in the order in which their lists are shown
unfoldable pub relations : Rel → List Rel
relations Item = Property ∷ Stat ∷ Artifact ∷ Dependency ∷ []
relations Property = []
relations Stat = []
relations Artifact = Item ∷ Module ∷ []
relations Dependency = Item ∷ Module ∷ []
relations Module = Artifact ∷ Dependency ∷ Build ∷ []
relations Build = Property ∷ Module ∷ Promotion ∷ []
relations Promotion = []

unfoldable pub relation_name : Rel → List ℕ
relation_name Property = codes "property"
relation_name Stat = codes "stat"
relation_name Artifact = codes "artifact"
relation_name Dependency = codes "dependency"
relation_name Item = codes "item"
relation_name Module = codes "module"
relation_name Build = codes "build"
relation_name Promotion = codes "promotion"

abbrev pub is_equality : Op → Bool
is_equality Eq = true
is_equality Ne = true
is_equality op = false

abbrev pub is_order : Op → Bool
is_order Gt = true
is_order Gte = true
is_order Lt = true
is_order Lte = true
is_order op = false

abbrev pub is_pattern : Op → Bool
is_pattern Match = true
is_pattern Nmatch = true
is_pattern op = false

-- how long ago it was
abbrev pub is_age : Op → Bool
is_age Before = true
is_age Last = true
is_age op = false

-- the operators that a field of this type takes
unfoldable pub takes : FieldType → Op → Bool
takes Texts op = is_equality op || is_order op || is_pattern op
takes Numbers op = is_equality op || is_order op
takes Dates op = is_equality op || is_order op || is_age op
takes Kinds op = is_equality op
takes Lists op = false

-- ---- what a name means

-- the field with this name
abbrev pub named_entry : List ℕ → List Entry → Option Entry
named_entry name [] = None
named_entry name (entry ∷ entries) = if bytes_eq name entry.name then Some entry else named_entry name entries

unfoldable pub field_of : Rel → List ℕ → Option Entry
field_of domain name = named_entry name (fields domain)

-- the relation with this name
abbrev pub named_relation : List ℕ → List Rel → Option Rel
named_relation name [] = None
named_relation name (rel ∷ rels) = if bytes_eq name (relation_name rel) then Some rel else named_relation name rels

unfoldable pub relation_of : Rel → List ℕ → Option Rel
relation_of domain name = named_relation name (relations domain)

-- whether rows of a domain have properties
abbrev pub has_properties : Rel → Bool
has_properties Item = true
has_properties Build = true
has_properties domain = false
