-- What a member shows, of the entries that it notes.
use Rattle.std.specs.Prelude.{◌≡◌, Bool, List, map, refl}
use Rattle.std.specs.Coded.{Coded, code_by}
use Rattle.member.specs.declared.shown_entry.ShownEntry.{ShownEntry}
use Rattle.member.specs.declared.shown_entry.ShownEntry.TheVariants as entry
use Rattle.site_laws.specs.Site.{Shown}
use Rattle.site_laws.specs.Site as site

abbrev pub shown_of : ShownEntry → Shown
shown_of (entry.CameIn l) = site.CameIn l
shown_of (entry.WentOut l) = site.WentOut l
shown_of (entry.Asks r quiet) = site.Asks r quiet
shown_of (entry.Answers a) = site.Answers a
shown_of (entry.Notes moment) = site.Notes moment

abbrev pub shown_in : List (ShownEntry × Bool) → List Shown
shown_in entries = map (λ (e : ShownEntry × Bool). shown_of e.0) entries

abbrev entry_of : Shown → ShownEntry
entry_of (site.CameIn l) = entry.CameIn l
entry_of (site.WentOut l) = entry.WentOut l
entry_of (site.Asks r quiet) = entry.Asks r quiet
entry_of (site.Answers a) = entry.Answers a
entry_of (site.Notes moment) = entry.Notes moment

abbrev shown_back : (x : Shown) → shown_of (entry_of x) ≡ x
shown_back (site.CameIn l) = refl
shown_back (site.WentOut l) = refl
shown_back (site.Asks r quiet) = refl
shown_back (site.Answers a) = refl
shown_back (site.Notes moment) = refl

-- what is shown is identified by its entry
abbrev pub shown_code : Coded ShownEntry → Coded Shown
shown_code entry = code_by ShownEntry entry entry_of shown_of shown_back
