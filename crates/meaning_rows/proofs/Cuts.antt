-- Rows of a document that is cut anywhere, and of how many subrequests are asked for.
use Rattle.std.specs.Prelude.{◌≡◌, ℕ, true, false, List, [], ◌++◌, length, map, codes, replicate, refl}
use Prim.Native.String.{String}
use Rattle.file_tree.specs.Tree.{Tree}
use Rattle.filter_api.specs.declared.facts.Facts.{Facts}
use Rattle.filter_api.specs.Chains.{begun as stages_at_start, feeds_all}
use Rattle.filter_api.specs.declared.stage.Stage.{Stage}
use Rattle.ssi_text.specs.Marks.{Mark, Byte}
use Rattle.http_types.specs.declared.words.Method.TheVariants.{Get}
use Rattle.http_types.specs.declared.words.Version.TheVariants.{V11}
use Rattle.meaning_rows.proofs.Opened.{opened}
use Rattle.meaning_rows.proofs.Samples.{with_ssi, file, file_at, none, get, main_with, request_with}
use Rattle.meaning_rows.proofs.Documents.{documents}
use Rattle.request_meaning.specs.Serving.{Serving, Answer}
use Rattle.request_meaning.specs.Answering.{facts_of}
use Rattle.request_meaning.specs.Bodies.{machines}
use Rattle.request_meaning.specs.Documents.{Doc, begun as begun_doc}
use Rattle.request_meaning.specs.Phases.{standing}
use Rattle.request_meaning.specs.Replies.{outside, most_depth}
use Rattle.family_meaning.specs.Flight.{Flight, Terms, begun, asks_over}
use Rattle.family_meaning.specs.Suspended.{document_rest}

-- ---- cuts

abbrev pub facts : Facts
facts = facts_of (standing (outside (main_with Get (codes "/p.html") []) (request_with Get (codes "/p.html") [])) with_ssi) 200 (codes "text/html")

abbrev pub answer : Answer
answer = (get documents (file "/w/p.html" "" none) "/p.html").answer

abbrev pub doc : Doc
doc = begun_doc answer.main answer.request answer.values most_depth []

-- a document of which the first bytes were read and the parts that they gave were not yet served
abbrev pub read_first : List Stage × List Mark → List ℕ → Serving Answer
read_first fed bytes = document_rest documents answer doc fed.1 (machines documents facts) fed.0 bytes

abbrev pub fed : String → List Stage × List Mark
fed first = feeds_all (machines documents facts) (stages_at_start (machines documents facts)) (map Byte (codes first))

abbrev pub whole : String → Serving Answer
whole text = read_first (stages_at_start (machines documents facts), []) (codes text)

-- the cut is within the mark that begins a command, and within a quoted name
row_cut_mark : read_first (fed "aa<!-") (codes "-# echo var=\"uri\" -->b") ≡ whole "aa<!--# echo var=\"uri\" -->b"
unfolding opened
row_cut_mark = refl

row_cut_name : read_first (fed "aa<!--# echo var=\"u") (codes "ri\" -->b") ≡ whole "aa<!--# echo var=\"uri\" -->b"
unfolding opened
row_cut_name = refl

-- a file of more than one block whose command is cut by the block's end
row_two_blocks : length (get documents (file_at (codes "/w/p.html") (replicate 16380 97 ++ codes "<!--# echo var=\"uri\" -->") 0 none) "/p.html").body ≡ 16387
unfolding opened
row_two_blocks = refl

-- ---- how many subrequests

abbrev pub terms : Terms
terms = record { moment = 0; version = V11; no_body = false; before = 0; head_keeps = true }

abbrev pub flight : Flight
flight = begun documents (main_with Get (codes "/p.html") []) (request_with Get (codes "/p.html") []) terms

abbrev pub two : Tree
two = file "/w/p.html" "<!--# include virtual=\"/b.html\" --><!--# include virtual=\"/b.html\" -->" (file "/w/b.html" "B" none)

-- two subrequests are more than one, and not more than two
row_over_one : asks_over 1 documents two flight ≡ true
unfolding opened
row_over_one = refl

row_over_two : asks_over 2 documents two flight ≡ false
unfolding opened
row_over_two = refl

-- those that were started count too
row_over_started : asks_over 2 documents two (record flight { started = 1 }) ≡ true
unfolding opened
row_over_started = refl
