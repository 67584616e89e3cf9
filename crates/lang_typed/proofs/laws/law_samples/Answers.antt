use Rattle.lang_typed.proofs.Refused.{field_twice, element_often, element_of_same, partial_write}
use Rattle.lang_typed.proofs.Mended.{two_fields_written, each_element, whole_write}
use Rattle.lang_typed.proofs.laws.law_samples.Goals as goal

pub returns : goal.returns
returns c = record {
  field = record { refused = field_twice; mended = two_fields_written };
  element = record { refused = element_often; same_variable = element_of_same; mended = each_element };
  partial = record { refused = partial_write; mended = whole_write };
}
