-- The fixed parts of every page.
use Rattle.std.specs.Prelude.{◌≡◌}
use Rattle.tk_picture.specs.declared.page.parts.Parts.{Parts}
use Rattle.tk_page.specs.declared.embedded.TheConstants.{HEAD, SCRIPT, STYLE, TOOLS}

-- the parts are the files of `page/`: head.html, page.css, tools.html and page.js
pub record ArePageParts (parts : Parts) : Type 0 where
  pub head : parts.head.now ≡ HEAD.now
  pub style : parts.style.now ≡ STYLE.now
  pub tools : parts.tools.now ≡ TOOLS.now
  pub script : parts.script.now ≡ SCRIPT.now
