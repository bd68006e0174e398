-- The methods of a head are tokens.
use Rattle.std.proofs.Common.{ℕ, List}
use Rattle.httparse.specs.Grammar.{IsToken, is_token_byte}
use Rattle.http_header.specs.Token.{IsToken as IsMethodToken, is_token_byte as is_method_byte}

-- two spellings of one definition
pub method_token : (bytes : List ℕ) → IsToken bytes → IsMethodToken bytes
unfolding is_token_byte is_method_byte
method_token bytes h = h
