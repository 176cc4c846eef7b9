-- What contracts see of the parts of rows and definitions, wherever they lie.
use Rattle.std.specs.Prelude.{ℕ, ℤ, List, Option}
use Rattle.arti_rows.specs.declared.rows.FileRef.{FileRef}
use Rattle.arti_rows.specs.declared.rows.Property.{Property}
use Rattle.arti_rows.specs.declared.rows.Stat.{Stat}
use Rattle.arti_rows.specs.declared.rows.Given.{Given}
use Rattle.arti_rows.specs.declared.edits.BuildInfo.{BuildInfo}
use Rattle.arti_rows.specs.declared.rows.ModuleRow.{ModuleRow}
use Rattle.arti_rows.specs.declared.rows.PromotionRow.{PromotionRow}
use Rattle.arti_codec.specs.declared.builds.Parts.{Parts}
use Rattle.arti_codec.specs.declared.builds.Body.{Body}
use Rattle.arti_codec.specs.declared.builds.Added.{Added}
use Rattle.arti_codec.specs.declared.definitions.Patterns.{Patterns}
use Rattle.arti_codec.specs.declared.files.Stamps.{Stamps}
use Rattle.arti_codec.specs.declared.files.Held.{Held}

abbrev pub seen : Parts → BuildInfo
seen p = record { name = p.name.now; number = p.number.now; started = p.started; url = p.url.now; props = p.props.now; modules = p.modules.now; document = p.document.now }

abbrev pub body_seen : Body → List Property × (List ModuleRow × List ℕ)
body_seen b = (b.props, (b.modules, b.document))

abbrev pub added_seen : Added → ℤ × (List ℕ × (ℤ × (List ℕ × List PromotionRow)))
added_seen a = (a.created, (a.created_by, (a.modified, (a.modified_by, a.promotions))))

abbrev pub patterns_seen : Patterns → Option (List ℕ) × (List ℕ × List ℕ)
patterns_seen p = (p.default_to, (p.includes, p.excludes))

abbrev pub stamps_seen : Stamps → ℤ × (List ℕ × (ℤ × (List ℕ × ℤ)))
stamps_seen s = (s.created, (s.created_by, (s.modified, (s.modified_by, s.updated))))

abbrev pub held_seen : Held → Given × (Option FileRef × (List Property × Option Stat))
held_seen h = (h.given, (h.file, (h.props, h.stat)))
