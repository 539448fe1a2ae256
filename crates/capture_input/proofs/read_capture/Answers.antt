use Rattle.std.proofs.Common.{◌≡◌, ℕ, ◌+◌, ◌≤◌, List, ◌++◌, [], length, take, length-take, IfSome, Option, Some, None, ◌∙◌, ap, arith}
use Rattle.std.proofs.lemmas.List.{take_all}
use Rattle.std.specs.Option.{option_map}
use Rattle.capture_input.proofs.read_capture.Goals as goal

-- no byte is left behind where fewer came than were asked for
whole : (bytes : Option (List ℕ)) (read : List ℕ) (limit : ℕ) → length read ≤ limit → IfSome (option_map (take (limit + 1)) bytes) (λ xs. read ≡ [] ++ xs) → IfSome bytes (λ xs. read ≡ xs)
whole None read limit short is = tt
whole (Some xs) read limit short is = is ∙ take_all (limit + 1) xs (omega (arith, length-take (limit + 1) xs, ap length is))

pub returns-clause-whole : goal.returns-clause-whole
returns-clause-whole g c =
    let buffer = c.read_to_end.new.buf in
    whole (g.R.Read.remaining c.args.input) buffer.items 65536 (omega (arith, buffer.ok.0))
    (rw (c.take.ensures.limit, c.take.ensures.inner, c.new-capture.ensures.items) at c.in_ok-read_to_end.ensures.bytes)
