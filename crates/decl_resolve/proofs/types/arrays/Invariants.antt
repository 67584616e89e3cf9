use Rattle.std.proofs.Common.{◌≡◌, ◌+◌, length}
use Rattle.std.specs.Vec.Iter.{into_iter_items, into_iter_len}
use Rattle.lang_base.specs.Types.{plain_type}
use Rattle.decl_resolve.specs.Index.{plain_index}
use Rattle.decl_resolve.specs.Written.{arrays_from}
use Rattle.decl_resolve.proofs.types.arrays.Given as goal

abbrev pub invariant-loop-rpl : goal.invariant-loop-rpl
invariant-loop-rpl l = record {
  made : arrays_from (plain_index l.around) l.at (plain_type l.made) (into_iter_items l.rpl-iterator) ≡ arrays_from (plain_index l.around) 0 (plain_type l.initial.made) (into_iter_items l.initial.rpl-iterator);
  count : l.at + into_iter_len l.rpl-iterator ≡ into_iter_len l.initial.rpl-iterator;
  long : into_iter_len l.rpl-iterator ≡ length (into_iter_items l.rpl-iterator);
}
