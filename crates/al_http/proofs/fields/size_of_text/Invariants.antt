use Rattle.std.proofs.Common.{◌≡◌, ◌≤◌, ◌-◌, ◌^◌, min, drop}
use Rattle.std.specs.Str.{all_ascii_digits}
use Rattle.std.specs.Str.Parse.{digits_value, digits_value_after}
use Rattle.al_http.proofs.fields.size_of_text.Given as goal

abbrev pub invariant-loop-c : goal.invariant-loop-c
invariant-loop-c l = record {
  most : l.n ≤ 2 ^ 64 - 1;
  digits : all_ascii_digits (drop l.c-index l.text) ≡ all_ascii_digits l.text;
  value : min (digits_value_after 10 l.n (drop l.c-index l.text)) (2 ^ 64 - 1) ≡ min (digits_value 10 l.text) (2 ^ 64 - 1);
}
