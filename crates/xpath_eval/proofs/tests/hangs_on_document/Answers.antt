use Rattle.std.proofs.Common.{sym, ap, subst, ◌∙◌}
use Rattle.path_model.specs.declared.path.XPath.{out-XPath}
use Rattle.path_model.specs.Paths.{path}
use Rattle.path_model.specs.PlainPaths.{plain, plain_way}
use Rattle.xpath_eval.specs.inside.Memos.{HangsOnDocument}
use Rattle.xpath_eval.proofs.Memos.{document_alike}
use Rattle.xpath_eval.proofs.Opened.{path_is}
use Rattle.xpath_eval.proofs.tests.hangs_on_document.Goals as goal

pub returns-in-Path : goal.returns-in-Path
returns-in-Path c y =
    let p = c.in-Path.path in
    let steps = plain_way (out-XPath p).steps in
    subst HangsOnDocument (sym (ap plain c.in-Path.is ∙ path_is p ∙ ap (λ b. path b steps) y)) (document_alike steps)
