use Rattle.std.proofs.Common.{arith}
use Rattle.std.proofs.lemmas.Bool.{iff_false}
use Rattle.tool_words.proofs.Numbers.{refused_in, parsed_in, unparsed_in}
use Rattle.tool_words.proofs.setting.number.Goals as goal

pub returns-then-not-is_plain-clause-given : goal.returns-then-not-is_plain-clause-given
returns-then-not-is_plain-clause-given c = refused_in c.args.least c.args.most c.args.text.now (omega arith) (iff_false c.is_plain.ensures c.if-not-is_plain.true)

pub returns-in-Ok-clause-given : goal.returns-in-Ok-clause-given
returns-in-Ok-clause-given c =
    let plain = c.is_plain.ensures.0 c.if-not-is_plain.false in
    parsed_in c.args.least c.args.most c.args.text.now c.in-Ok.value plain.0 plain.1 c.in-Ok.ensures.value.0 (omega arith) (omega arith)

pub returns-in_default-3-clause-given : goal.returns-in_default-3-clause-given
returns-in_default-3-clause-given c = unparsed_in c.args.least c.args.most c.args.text.now (omega arith) (c.is_plain.ensures.0 c.if-not-is_plain.false).0 c.in_default.ensures.value.0
