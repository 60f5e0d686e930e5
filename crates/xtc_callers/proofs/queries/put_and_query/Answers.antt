use Rattle.std.proofs.Common.{length}
use Rattle.call_contract.specs.Books.{commits}
use Rattle.xtc_callers.specs.NewDocuments.{put_new, tree_of_document}
use Rattle.xtc_callers.proofs.NewDocumentLaws.{put_of}
use Rattle.xtc_callers.proofs.QueriesLaws.{document_stands}
use Rattle.xtc_callers.proofs.queries.put_and_query.Goals as goal

pub returns : goal.returns
returns g c = record {
  found = λ name element text path hits put_named query_named is is_path put_done query_done finds.
      let put = put_of name element c.args.input _ _ _ is (c.put_into_new_store-put.ensures.done name put_named put_done) in
      c.query_store-queried.ensures.found name text path (tree_of_document name element) (length (commits (put_new name element).book)) hits query_named is_path
      (document_stands name element _ _ put) finds query_done;
}
