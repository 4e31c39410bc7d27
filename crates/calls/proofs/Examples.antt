-- The examples hold: antt computes what each call and answer stands for.
use Rattle.std.proofs.Common.{◌≡◌, map, refl}
use Rattle.calls.specs.Answers.{call_for, answer_for}
use Rattle.calls.specs.Examples.{CallExample, AnswerExample, two_words, call_examples, answer_examples}

pub calls_hold : map (λ (e : CallExample). call_for e.given two_words) call_examples ≡ map (λ (e : CallExample). e.meant) call_examples
unfolding call_examples
calls_hold = refl

pub answers_hold : map (λ (e : AnswerExample). answer_for e.given two_words) answer_examples ≡ map (λ (e : AnswerExample). e.meant) answer_examples
unfolding answer_examples
answers_hold = refl
