-- What stands after a primary makes a Postfix of it.
use Rattle.std.proofs.Common.{List}
use Rattle.syntax_tokens.specs.declared.terminal.Placed.{Placed}
use Rattle.syntax_tree.specs.Plain.{PlainExpr}
use Rattle.syntax_grammar.specs.Expressions.{Ending, DerivesPostfix, DerivesUnary, postfix}
use Rattle.syntax_grammar.specs.Reading.{DerivesSelection, DerivesSelections, ending_of}

pub selection_postfix : {ending : Ending} {before one after : List Placed} {of found : PlainExpr} →
    DerivesPostfix ending before one of → DerivesSelection of one after found → DerivesPostfix (ending_of found) before after found
selection_postfix d (DerivesSelection.after_dot dot name) = DerivesPostfix.after_dot d dot name
selection_postfix d (DerivesSelection.called dot paths name all) = DerivesPostfix.called d dot paths name all
selection_postfix d (DerivesSelection.indexed start at end) = DerivesPostfix.indexed d start at end

pub selections_some : {ending : Ending} {before one after : List Placed} {first found : PlainExpr} →
    DerivesPostfix ending before one first → DerivesSelections first one after found → (last : Ending) × DerivesPostfix last before after found
selections_some {ending} d DerivesSelections.none = (ending, d)
selections_some d (DerivesSelections.more earlier next) = (_, selection_postfix (selections_some d earlier).1 next)

pub selections_unary : {ending : Ending} {before one after : List Placed} {first found : PlainExpr} →
    DerivesPostfix ending before one first → DerivesSelections first one after found → DerivesUnary before after found
selections_unary d s = postfix (selections_some d s).1
