-- The text of a page in its layout.
use Rattle.std.specs.Prelude.{ℕ, List}
use Rattle.pages.specs.Page.{PageState, Laid}
use Rattle.pages.specs.Layout.{text_in}

abbrev pub page_record : PageState → List ℕ
page_record page = text_in page.layout page.items

abbrev pub laid_record : Laid → List ℕ
laid_record page = text_in page.layout page.items
