use Rattle.std.proofs.Common.{◌≡◌, refl}
use Rattle.tool_words.specs.Demo.{demo_text}
use Rattle.tool_words.proofs.Lines.{demo-short}
use Rattle.tool_words.proofs.source.demo_source.Goals as goal

text-made : (c : goal.In_ok-extend-10) → c.extend-10.new.self ≡ demo_text c.args.classes
text-made c =
    rw (
      c.in_ok-extend-10.ensures.ok,
      c.in_ok-extend-9.ensures.ok,
      c.in_ok-extend-8.ensures,
      c.in_ok-extend-7.ensures.ok,
      c.in_ok-extend-6.ensures.ok,
      c.in_ok-extend-5.ensures,
      c.in_ok-extend-4.ensures.ok,
      c.in_ok-extend-3.ensures,
      c.in_ok-extend-2.ensures.ok,
      c.in_ok-extend.ensures,
      c.new-text.ensures,
    )
    refl

pub returns-clause-text : goal.returns-clause-text
returns-clause-text c = text-made c

pub returns-clause-short : goal.returns-clause-short
returns-clause-short c = rw (text-made c) (demo-short c.args.classes c.requires.most)
