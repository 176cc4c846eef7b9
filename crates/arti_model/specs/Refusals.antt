-- The table of refusals: the status and the message of each.
use Rattle.std.specs.Prelude.{ℕ, List, [], ◌∷◌, ◌++◌, codes, decimal, Some, flat_map}
use Rattle.arti_rows.specs.declared.refusal.Refusal.{Refusal}
use Rattle.arti_rows.specs.declared.refusal.Refusal.TheVariants as refusals
use Rattle.arti_rows.specs.declared.refusal.What.{What}
use Rattle.arti_rows.specs.declared.refusal.What.TheVariants as parts
use Rattle.arti_rows.specs.declared.refusal.Which.{Which}
use Rattle.arti_rows.specs.declared.refusal.Which.TheVariants as kinds
use Rattle.arti_model.specs.Bodies.{item_text}

-- ---- the values that messages carry

-- what a limit counts
abbrev pub which_text : Which → List ℕ
which_text kinds.Repositories = codes "repositories"
which_text kinds.Items = codes "items"
which_text kinds.Builds = codes "builds"
which_text kinds.Blobs = codes "blobs"
which_text kinds.Journal = codes "journal"
which_text kinds.Properties = codes "properties"
which_text kinds.Promotions = codes "promotions"

-- a part of a query
abbrev pub what_text : What → List ℕ
what_text parts.Name = codes "Name"
what_text parts.Dot = codes "Dot"
what_text parts.Open = codes "Open"
what_text parts.Object = codes "Object"
what_text parts.CommaOrClose = codes "CommaOrClose"
what_text parts.Suffix = codes "Suffix"
what_text parts.Key = codes "Key"
what_text parts.Colon = codes "Colon"
what_text parts.List = codes "List"
what_text parts.Operand = codes "Operand"
what_text parts.Operator = codes "Operator"
what_text parts.Literal = codes "Literal"
what_text parts.Text = codes "Text"
what_text parts.SortOrder = codes "SortOrder"
what_text parts.Number = codes "Number"
what_text parts.Truth = codes "Truth"

-- texts with commas between them
abbrev pub joined : List (List ℕ) → List ℕ
joined [] = []
joined (text ∷ texts) = text ++ flat_map (λ (t : List ℕ). codes ", " ++ t) texts

-- ---- the table

abbrev pub status_of : Refusal → ℕ
status_of refusals.BadTarget = 400
status_of refusals.NoRoute = 404
status_of refusals.NoMethod = 405
status_of refusals.BadUser = 400
status_of (refusals.BadHeader name) = 400
status_of refusals.ChecksumMissing = 400
status_of (refusals.Missing name) = 400
status_of (refusals.BadQuery name) = 400
status_of refusals.BadName = 400
status_of (refusals.TooLong member) = 400
status_of refusals.BadProps = 400
status_of refusals.DocumentTooLarge = 413
status_of refusals.NotJson = 400
status_of (refusals.WrongKind member) = 400
status_of (refusals.NotASpec member) = 400
status_of (refusals.NotSupported name) = 400
status_of (refusals.NoPlaceholder n) = 400
status_of (refusals.NoDomain name) = 400
status_of (refusals.NoField path) = 400
status_of (refusals.WrongOperator path) = 400
status_of (refusals.BadValue path) = 400
status_of (refusals.PathTooLong path) = 400
status_of refusals.TooManyCases = 400
status_of (refusals.SortNotShown path) = 400
status_of refusals.QueryTooLong = 400
status_of (refusals.BadByte at) = 400
status_of (refusals.OpenText at) = 400
status_of (refusals.BadEscape at) = 400
status_of (refusals.Expected at what) = 400
status_of refusals.TooDeep = 400
status_of (refusals.NoRepo repo) = 404
status_of (refusals.NotDeployable repo) = 400
status_of (refusals.NotAdmitted key) = 409
status_of (refusals.FileAbove key) = 409
status_of (refusals.FolderHere key) = 409
status_of (refusals.FileHere key) = 409
status_of refusals.NoContent = 404
status_of (refusals.ChecksumMismatch name) = 409
status_of (refusals.NotFound key) = 404
status_of (refusals.RemoteFailed repo) = 502
status_of refusals.ContentTooLarge = 413
status_of (refusals.NotLocal repo) = 400
status_of refusals.TooManyItems = 413
status_of (refusals.IntoItself key) = 409
status_of (refusals.TargetTaken key) = 409
status_of (refusals.NoBuild name number) = 404
status_of (refusals.Taken repo) = 409
status_of refusals.ClassChange = 400
status_of (refusals.UnknownMember repo) = 400
status_of (refusals.Cycle repos) = 400
status_of refusals.ReplyTooLarge = 413
status_of (refusals.Full which) = 507
status_of (refusals.NotYet at) = 501
status_of refusals.Memory = 500

-- what its message begins with
abbrev pub name_of : Refusal → List ℕ
name_of refusals.BadTarget = codes "BadTarget"
name_of refusals.NoRoute = codes "NoRoute"
name_of refusals.NoMethod = codes "NoMethod"
name_of refusals.BadUser = codes "BadUser"
name_of (refusals.BadHeader name) = codes "BadHeader"
name_of refusals.ChecksumMissing = codes "ChecksumMissing"
name_of (refusals.Missing name) = codes "Missing"
name_of (refusals.BadQuery name) = codes "BadQuery"
name_of refusals.BadName = codes "BadName"
name_of (refusals.TooLong member) = codes "TooLong"
name_of refusals.BadProps = codes "BadProps"
name_of refusals.DocumentTooLarge = codes "DocumentTooLarge"
name_of refusals.NotJson = codes "NotJson"
name_of (refusals.WrongKind member) = codes "WrongKind"
name_of (refusals.NotASpec member) = codes "NotASpec"
name_of (refusals.NotSupported name) = codes "NotSupported"
name_of (refusals.NoPlaceholder n) = codes "NoPlaceholder"
name_of (refusals.NoDomain name) = codes "NoDomain"
name_of (refusals.NoField path) = codes "NoField"
name_of (refusals.WrongOperator path) = codes "WrongOperator"
name_of (refusals.BadValue path) = codes "BadValue"
name_of (refusals.PathTooLong path) = codes "PathTooLong"
name_of refusals.TooManyCases = codes "TooManyCases"
name_of (refusals.SortNotShown path) = codes "SortNotShown"
name_of refusals.QueryTooLong = codes "QueryTooLong"
name_of (refusals.BadByte at) = codes "BadByte"
name_of (refusals.OpenText at) = codes "OpenText"
name_of (refusals.BadEscape at) = codes "BadEscape"
name_of (refusals.Expected at what) = codes "Expected"
name_of refusals.TooDeep = codes "TooDeep"
name_of (refusals.NoRepo repo) = codes "NoRepo"
name_of (refusals.NotDeployable repo) = codes "NotDeployable"
name_of (refusals.NotAdmitted key) = codes "NotAdmitted"
name_of (refusals.FileAbove key) = codes "FileAbove"
name_of (refusals.FolderHere key) = codes "FolderHere"
name_of (refusals.FileHere key) = codes "FileHere"
name_of refusals.NoContent = codes "NoContent"
name_of (refusals.ChecksumMismatch name) = codes "ChecksumMismatch"
name_of (refusals.NotFound key) = codes "NotFound"
name_of (refusals.RemoteFailed repo) = codes "RemoteFailed"
name_of refusals.ContentTooLarge = codes "ContentTooLarge"
name_of (refusals.NotLocal repo) = codes "NotLocal"
name_of refusals.TooManyItems = codes "TooManyItems"
name_of (refusals.IntoItself key) = codes "IntoItself"
name_of (refusals.TargetTaken key) = codes "TargetTaken"
name_of (refusals.NoBuild name number) = codes "NoBuild"
name_of (refusals.Taken repo) = codes "Taken"
name_of refusals.ClassChange = codes "ClassChange"
name_of (refusals.UnknownMember repo) = codes "UnknownMember"
name_of (refusals.Cycle repos) = codes "Cycle"
name_of refusals.ReplyTooLarge = codes "ReplyTooLarge"
name_of (refusals.Full which) = codes "Full"
name_of (refusals.NotYet at) = codes "NotYet"
name_of refusals.Memory = codes "Memory"

-- the values that its message carries, behind a colon
abbrev pub carried : Refusal → List ℕ
carried (refusals.BadHeader name) = codes ": " ++ name
carried (refusals.Missing name) = codes ": " ++ name
carried (refusals.BadQuery name) = codes ": " ++ name
carried (refusals.TooLong (Some member)) = codes ": " ++ member
carried (refusals.WrongKind member) = codes ": " ++ member
carried (refusals.NotASpec member) = codes ": " ++ member
carried (refusals.NotSupported name) = codes ": " ++ name
carried (refusals.NoPlaceholder n) = codes ": " ++ decimal n
carried (refusals.NoDomain name) = codes ": " ++ name
carried (refusals.NoField path) = codes ": " ++ path
carried (refusals.WrongOperator path) = codes ": " ++ path
carried (refusals.BadValue path) = codes ": " ++ path
carried (refusals.PathTooLong path) = codes ": " ++ path
carried (refusals.SortNotShown path) = codes ": " ++ path
carried (refusals.BadByte at) = codes ": " ++ decimal at
carried (refusals.OpenText at) = codes ": " ++ decimal at
carried (refusals.BadEscape at) = codes ": " ++ decimal at
carried (refusals.Expected at what) = codes ": " ++ decimal at ++ codes ", " ++ what_text what
carried (refusals.NoRepo repo) = codes ": " ++ repo
carried (refusals.NotDeployable repo) = codes ": " ++ repo
carried (refusals.NotAdmitted key) = codes ": " ++ item_text key
carried (refusals.FileAbove key) = codes ": " ++ item_text key
carried (refusals.FolderHere key) = codes ": " ++ item_text key
carried (refusals.FileHere key) = codes ": " ++ item_text key
carried (refusals.ChecksumMismatch name) = codes ": " ++ name
carried (refusals.NotFound key) = codes ": " ++ item_text key
carried (refusals.RemoteFailed repo) = codes ": " ++ repo
carried (refusals.NotLocal repo) = codes ": " ++ repo
carried (refusals.IntoItself key) = codes ": " ++ item_text key
carried (refusals.TargetTaken key) = codes ": " ++ item_text key
carried (refusals.NoBuild name number) = codes ": " ++ name ++ 47 ∷ number
carried (refusals.Taken repo) = codes ": " ++ repo
carried (refusals.UnknownMember repo) = codes ": " ++ repo
carried (refusals.Cycle repos) = codes ": " ++ joined repos
carried (refusals.Full which) = codes ": " ++ which_text which
carried (refusals.NotYet (Some at)) = codes ": " ++ decimal at
carried why = []

abbrev pub message_of : Refusal → List ℕ
message_of why = name_of why ++ carried why
