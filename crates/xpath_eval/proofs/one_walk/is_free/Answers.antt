use Rattle.std.proofs.Common.{sym, ap, subst, ◌∙◌}
use Rattle.path_model.specs.PlainPaths.{plain, plain_way}
use Rattle.path_model.specs.declared.path.XPath.{out-XPath}
use Rattle.xpath_eval.specs.inside.Walks.{IsFree}
use Rattle.xpath_eval.proofs.FreeTests.{free_path, chain_free}
use Rattle.xpath_eval.proofs.Opened.{path_is}
use Rattle.xpath_eval.proofs.one_walk.is_free.Goals as goal

pub returns-in-Path : goal.returns-in-Path
returns-in-Path c _ =
    subst IsFree (sym (ap plain c.in-Path.is ∙ path_is c.in-Path.field-0)) (free_path (out-XPath c.in-Path.field-0).absolute (plain_way (out-XPath c.in-Path.field-0).steps))

pub returns-in-Chain : goal.returns-in-Chain
returns-in-Chain c y = chain_free c.args.test.now _ _ _ _ c.in-Chain.is c.as_slice.ensures c.as_slice-in-Chain.ensures (c.is_free_chain.ensures y)
