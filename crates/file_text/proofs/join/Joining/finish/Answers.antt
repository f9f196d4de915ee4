use Rattle.std.proofs.Common.{ℕ, ◌+◌, ◌||◌, nat_lt, string_bytes, ap, ◌∙◌, arith}
use Rattle.file_text.proofs.JoinSteps.{finished, frame_is}
use Rattle.file_text.proofs.join.Joining.finish.Goals as goal

pub returns-clause-file : goal.returns-clause-file
returns-clause-file c = λ items is.
    finished c.args.self items (string_bytes c.push_str.new.self) (string_bytes c.push_str-2.new.self) (string_bytes c.put_end.new.file) (string_bytes c.push_str-3.new.self) c.as_str.result.now c.as_str-2.result.now c.as_str-3.result.now is
    c.as_str.ensures.value c.as_str-2.ensures.value c.as_str-3.ensures.value c.in_ok-push_str.ensures.bytes c.in_ok-push_str-2.ensures.bytes c.in_ok-put_end.ensures c.in_ok-push_str-3.ensures.bytes

pub returns-clause-long : goal.returns-clause-long
returns-clause-long c = λ items is.
    c.is_any_long-is_long.ensures
    ∙ ap (λ (n : ℕ). nat_lt 8388608 (n + c.args.self.lengths.longest) || nat_lt 8388608 c.args.self.longest_other)
    (frame_is c.args.self items (string_bytes c.push_str.new.self) (string_bytes c.push_str-2.new.self) (string_bytes c.put_end.new.file) c.as_str.result.now c.len-front.result c.len-before.result c.len.result is c.as_str.ensures.value
    c.in_ok-push_str.ensures.bytes c.in_ok-put_end.ensures (omega (arith, c.len-front.ensures)) (omega (arith, c.len-before.ensures)) (omega (arith, c.len.ensures)))
