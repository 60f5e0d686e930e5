-- The rows of what is looked at, by computation.
use Rattle.std.proofs.Common.{refl}
use Rattle.std.specs.Str.{chars}
use lib.Utf8.{encode}
use Rattle.path_rows.specs.Looks.{AllLook, LooksAtDocument, an_element, a_text, attribute_k, the_document, from_element, from_text, from_attribute, from_document}

pub element_looks : AllLook an_element from_element
unfolding chars encode from_element
element_looks = refl

pub text_looks : AllLook a_text from_text
unfolding chars encode from_text
text_looks = refl

pub attribute_looks : AllLook attribute_k from_attribute
unfolding chars encode from_attribute
attribute_looks = refl

pub document_looks : AllLook the_document from_document
unfolding chars encode from_document
document_looks = refl

pub element_to_document : LooksAtDocument an_element
unfolding chars encode
element_to_document = refl

pub attribute_to_document : LooksAtDocument attribute_k
unfolding chars encode
attribute_to_document = refl

pub document_to_itself : LooksAtDocument the_document
unfolding chars encode
document_to_itself = refl
