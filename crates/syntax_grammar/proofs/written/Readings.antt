-- What tokens say is derived by the grammar within the limits, or refused.
use Rattle.std.proofs.Common.{inl, inr, refl}
use Rattle.syntax_tree.specs.declared.class.Program.{Program}
use Rattle.syntax_grammar.specs.OneRefusal.{OneRefusal}
use Rattle.syntax_tokens.specs.Says.{distinct_names}
use Rattle.syntax_grammar.specs.Texts.{EachReading}
use Rattle.syntax_grammar.proofs.written.Said.{said_in}

pub each_reading : OneRefusal → EachReading
each_reading one bytes tokens end =
    let said = said_in bytes tokens in
    elim (one.some said.list end) [
      | inl derived ↦
          let program : Program = record { classes = derived.0.0; names = distinct_names bytes tokens } in
          inl (program, record { list = said.list; names = refl; said = said.means; derived = derived.0.1; within = derived.1 })
      | inr refused ↦ inr (refused.0, record { list = said.list; said = said.means; reported = refused.1 })
    ]
