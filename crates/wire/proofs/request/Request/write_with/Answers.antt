use Rattle.std.proofs.Common.{length, Ok, sym, ap, ◌∙◌, arith}
use Rattle.std.proofs.lemmas.Bool.{false≢true}
use Rattle.refusal.specs.declared.Refusal.TheVariants.{Malformed, ShortBuffer}
use Rattle.wire.specs.Writing.{text_length}
use Rattle.wire.specs.Requests.{fields_of}
use Rattle.wire.proofs.Filling.{too_long, too_short, enough, unfilled, filled_with}
use Rattle.wire.proofs.request.Request.write_with.Goals as goal

pub returns-then-self-header : goal.returns-then-self-header
returns-then-self-header c =
    let is = too_long c.args.width (fields_of c.args.self.now) (length c.args.out.now) (omega arith) in
    record { as_defined = sym is; buffer = sym (unfilled c.args.width (fields_of c.args.self.now) c.args.out.now Malformed is); fields_fit = λ no_way. absurd (false≢true no_way) }

pub returns-then-out-header : goal.returns-then-out-header
returns-then-out-header c =
    let is = too_short c.args.width (fields_of c.args.self.now) (length c.args.out.now) (omega arith) (omega arith) in
    record { as_defined = sym is; buffer = sym (unfilled c.args.width (fields_of c.args.self.now) c.args.out.now ShortBuffer is); fields_fit = λ no_way. absurd (false≢true no_way) }

pub returns : goal.returns
returns c =
    let is = enough c.args.width (fields_of c.args.self.now) (length c.args.out.now) (omega arith) (omega arith) in
    record {
      as_defined = ap Ok c.put_text.ensures.length ∙ sym is;
      buffer = c.put_text.ensures.buffer ∙ sym (filled_with c.args.width (fields_of c.args.self.now) c.args.out.now (text_length (fields_of c.args.self.now)) is);
      fields_fit = λ _. c.put_text.ensures.fields_fit;
    }
