use Rattle.req_head.proofs.KnownLemmas.{add_host, add_coding, add_length, add_connection, add_expect, add_other}
use Rattle.req_head.proofs.known.add_field.Goals as goal

pub returns-in-Host : goal.returns-in-Host
returns-in-Host c =
    add_host c.args.name.now c.args.value.now c.kind_of.result c.args.known c.with_value.result c.kind_of.ensures c.in-Host.is c.with_value.ensures

pub returns-in-Connection : goal.returns-in-Connection
returns-in-Connection c =
    add_connection c.args.name.now c.args.value.now c.kind_of.result c.args.known c.lists_so_far.result c.lists_so_far-in-Connection.result c.kind_of.ensures c.in-Connection.is
    c.lists_so_far.ensures c.lists_so_far-in-Connection.ensures

pub returns-in-Length : goal.returns-in-Length
returns-in-Length c =
    add_length c.args.name.now c.args.value.now c.kind_of.result c.args.known c.with_value-in-Length.result c.kind_of.ensures c.in-Length.is c.with_value-in-Length.ensures

pub returns-in-Coding : goal.returns-in-Coding
returns-in-Coding c =
    add_coding c.args.name.now c.args.value.now c.kind_of.result c.args.known c.with_value-in-Coding.result c.kind_of.ensures c.in-Coding.is c.with_value-in-Coding.ensures

pub returns-in-Expect : goal.returns-in-Expect
returns-in-Expect c =
    add_expect c.args.name.now c.args.value.now c.kind_of.result c.args.known c.same_so_far.result c.kind_of.ensures c.in-Expect.is c.same_so_far.ensures

pub returns-in-Other : goal.returns-in-Other
returns-in-Other c = add_other c.args.name.now c.args.value.now c.kind_of.result c.args.known c.kind_of.ensures c.in-Other.is
